-- What a disc divides, by its positions.
use Rattle.std.proofs.Common.{◌≡◌, ℕ, zero, suc, Option, None, Some, sym, ap₂, ◌∙◌, subst, mod-lt, pow_pos}
use Rattle.std.specs.Prelude.{MatchOption, IsSomeAnd}
use Rattle.std.proofs.lemmas.Option.{none-some}
use Rattle.scale.specs.Meaning.{Meaning, Laws, Code, Divided, Quotient, power}
use Rattle.scales.specs.Counting.{counting}
use Rattle.scales.specs.Kinds.{binary_mark, disc_mark, named}
use Rattle.scales.specs.Numbering.{renumbered, ungray}
use Rattle.scales.specs.Known.{gray_numbering}
use Rattle.scales.specs.Renumber.{Numbering, moved_quotient}

-- what divides the positions divides the codes
pub moved_divided :
    (code position : ℕ → ℕ) (m : Meaning) → Numbering code position m → (a b : ℕ) → Code m a → (r s : Option ℕ)
    → Divided m (position a) (position b) r
    → MatchOption r (s ≡ None) (λ c. IsSomeAnd s (λ d. d ≡ code c))
    → Divided (renumbered code position m) a b s
moved_divided code position m f a b ha None None d e = d
moved_divided code position m f a b ha None (Some x) d e = absurd (none-some x (sym e))
moved_divided code position m f a b ha (Some c) None d e = absurd e
moved_divided code position m f a b ha (Some c) (Some x) d e =
    (d.0, subst (Quotient (renumbered code position m) a b) (sym e) (moved_quotient code position m f a b c ha d.1))

-- a power of the disc's step stands at that power of the step between positions
pub power_position :
    (e : ℕ) → Laws (counting (binary_mark e)) → (k : ℕ)
    → ungray e (power (named (disc_mark e)) k) ≡ power (counting (binary_mark e)) k
power_position e l zero = (gray_numbering 3 e).position_code _ l.one_code
power_position e l (suc k) =
    let f = gray_numbering 3 e in
    f.position_code _ (mod-lt _ (pow_pos e))
    ∙ ap₂ (counting (binary_mark e)).product (f.position_code _ l.step_code) (power_position e l k)
