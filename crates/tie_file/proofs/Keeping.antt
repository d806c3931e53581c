-- What stands in a file stays where the bytes of it stay.
use Rattle.std.proofs.Common.{◌≡◌, ℕ, ◌+◌, ◌*◌, ◌<◌, ◌≤◌, List, length, ◌∙◌, arith, ap₂}
use Rattle.scale.specs.declared.Mark.{Mark}
use Rattle.ties.specs.declared.tie.Term.{Term}
use Rattle.ties.specs.Layouts.{Shape, counters_of}
use Rattle.ties.specs.Equations.{Equation, term_at}
use Rattle.tie_file.specs.Table.{byte, word}
use Rattle.tie_file.specs.Bodies.{long}
use Rattle.tie_file.specs.Writing.{tie_size}
use Rattle.tie_file.specs.Putting.{LayoutAt, LineAt, TermAt, TermsAt, TieAt}

-- two lists have the same bytes from a place up to another
abbrev pub Agree : List ℕ → List ℕ → ℕ → ℕ → Type 0
Agree f g from to = (i : ℕ) → from ≤ i → i < to → byte g i ≡ byte f i

word_kept : (f g : List ℕ) (at : ℕ) → Agree f g at (at + 2) → word g at ≡ word f at
word_kept f g at k =
    ap₂ (λ (a b : ℕ). a + 256 * b) (k at (omega arith) (omega arith)) (k (at + 1) (omega arith) (omega arith))

long_kept : (f g : List ℕ) (at : ℕ) → Agree f g at (at + 4) → long g at ≡ long f at
long_kept f g at k =
    let a = k at (omega arith) (omega arith) in
    let b = k (at + 1) (omega arith) (omega arith) in
    let c = k (at + 2) (omega arith) (omega arith) in
    let d = k (at + 3) (omega arith) (omega arith) in
    omega (arith, a, b, c, d)

line_kept :
    (f g : List ℕ) (i k at size : ℕ) → Agree f g (1 + 5 * i) (6 + 5 * i) → LineAt f i k at size → LineAt g i k at size
line_kept f g i k at size same line =
    record {
      kind = same (1 + 5 * i) (omega arith) (omega arith) ∙ line.kind;
      start = word_kept f g (2 + 5 * i) (λ j l b. same j (omega arith) (omega arith)) ∙ line.start;
      extent = word_kept f g (4 + 5 * i) (λ j l b. same j (omega arith) (omega arith)) ∙ line.extent;
    }

term_kept : (f g : List ℕ) (at : ℕ) (t : Term) → Agree f g at (at + 6) → TermAt f at t → TermAt g at t
term_kept f g at t same there = (
  same at (omega arith) (omega arith) ∙ there.0,
  same (at + 1) (omega arith) (omega arith) ∙ there.1,
  long_kept f g (at + 2) (λ j l b. same j (omega arith) (omega arith)) ∙ there.2,
)

terms_kept :
    (f g : List ℕ) (at : ℕ) (ts : List Term) (n : ℕ) → Agree f g at (at + 6 * n) → TermsAt f at ts n → TermsAt g at ts n
terms_kept f g at ts n same there i h =
    term_kept f g (at + 6 * i) (term_at ts i) (λ j l b. same j (omega arith) (omega arith)) (there i h)

pub tie_kept :
    (f g : List ℕ) (i at : ℕ) (e : Equation)
    → Agree f g (1 + 5 * i) (6 + 5 * i)
    → Agree f g at (at + tie_size e)
    → TieAt f i at e
    → TieAt g i at e
tie_kept f g i at e line body there =
    record {
      line = line_kept f g i 2 at (tie_size e) line there.line;
      target = body at (omega arith) (omega arith) ∙ there.target;
      right = long_kept f g (at + 1) (λ j l b. body j (omega arith) (omega arith)) ∙ there.right;
      terms = terms_kept f g (at + 5) e.terms (length e.terms) (λ j l b. body j (omega arith) (omega arith)) there.terms;
    }

pub layout_kept :
    (f g : List ℕ) (at : ℕ) (k : Mark) (s : Shape)
    → Agree f g 1 6
    → Agree f g at (at + 5 + counters_of s)
    → LayoutAt f at k s
    → LayoutAt g at k s
layout_kept f g at k s line body there =
    record {
      line = line_kept f g 0 1 at (5 + counters_of s) line there.line;
      kind = body at (omega arith) (omega arith) ∙ there.kind;
      base = body (at + 1) (omega arith) (omega arith) ∙ there.base;
      length = body (at + 2) (omega arith) (omega arith) ∙ there.length;
      heads = body (at + 3) (omega arith) (omega arith) ∙ there.heads;
      counters = body (at + 4) (omega arith) (omega arith) ∙ there.counters;
      widths = λ i h. body (at + 5 + i) (omega arith) (omega arith) ∙ there.widths i h;
    }
