-- The three kinds of scale: their numbers, and what a mark names.
use Rattle.std.specs.Prelude.{◌≡◌, ◌≢◌, ℕ, ◌≤◌, cond, ◌&&◌, List, [], ◌∷◌, ◌==◌, Result, MatchResult}
use Rattle.scale.specs.declared.Mark.{Mark}
use Rattle.scale.specs.Meaning.{Meaning}
use Rattle.scales.specs.declared.fault.ScaleFault.{ScaleFault}
use Rattle.scales.specs.declared.kind.Kind.{Kind}
use Rattle.scales.specs.declared.kind.Kind.TheVariants.{Binary, Prime, Disc}
use Rattle.scales.specs.Counting.{counting}
use Rattle.scales.specs.Numbering.{renumbered, gray, ungray}

-- the number that a mark has for each kind
abbrev pub number : Kind → ℕ
number Binary = 1
number Prime = 2
number Disc = 3

-- the kind that has this number, or a fault where none has
abbrev pub Decodes : ℕ → Result Kind ScaleFault → Type 0
Decodes n r = MatchResult r (λ kind. number kind ≡ n) (λ _. (kind : Kind) → number kind ≢ n)

-- each kind and base, with the greatest length that it has
abbrev pub rows : List (ℕ × ℕ × ℕ)
rows =
    (number Binary, 2, 31)
    ∷ (number Prime, 3, 19)
    ∷ (number Prime, 5, 13)
    ∷ (number Prime, 7, 11)
    ∷ (number Disc, 2, 31)
    ∷ []

-- the greatest length of a kind and base, and 0 where no row has them
abbrev pub longest_in : List (ℕ × ℕ × ℕ) → ℕ → ℕ → ℕ
longest_in [] kind base = 0
longest_in (row ∷ others) kind base =
    cond (kind == row.0 && base == row.1) row.2 (longest_in others kind base)

abbrev pub longest : ℕ → ℕ → ℕ
longest = longest_in rows

-- the numbers of a mark are those of its kind
abbrev pub Numbers : Mark → Type 0
Numbers k = (1 ≤ k.length) × (k.length ≤ longest k.kind k.base)

-- the scale that a mark names: a disc counts under Gray codes, the others plainly
abbrev pub named : Mark → Meaning
named k = cond (k.kind == number Disc) (renumbered gray (ungray k.length) (counting k)) (counting k)

-- what a constructor answers: the scale that the mark names, and a fault exactly where its numbers are wrong
abbrev pub Makes : {S : Type 0} → (S → Meaning) → Mark → Result S ScaleFault → Type 0
Makes meaning k r = MatchResult r (λ s. Numbers k × (meaning s ≡ named k)) (λ _. Numbers k → ⊥)

-- the marks of each kind
abbrev pub binary_mark : ℕ → Mark
binary_mark length = record { kind = number Binary; base = 2; length = length }

abbrev pub prime_mark : ℕ → ℕ → Mark
prime_mark base length = record { kind = number Prime; base = base; length = length }

abbrev pub disc_mark : ℕ → Mark
disc_mark length = record { kind = number Disc; base = 2; length = length }
