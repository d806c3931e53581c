-- The tie that states that a counter's code is 0 is sound, and how places and counters go together.
use Rattle.std.proofs.Common.{ℕ, ◌/◌, ◌%◌, ◌<◌, subst}
use lib.Arith.{digits_div, digits_mod}
use Rattle.ties.specs.Layouts.{Has, Shape, counters_of, place, places}
use Rattle.ties.proofs.Places.{place_below}

-- what is said of each place is said of each counter
pub by_counter :
    (s : Shape) (P : ℕ → ℕ → ℕ → Type 0)
    → ((i : ℕ) → i < places s → P (i / counters_of s) (i % counters_of s) i)
    → (h c : ℕ)
    → Has s h c
    → P h c (place s h c)
by_counter s P all h c has =
    let i = place s h c in
    subst (λ (a : ℕ). P a c i) (digits_div h has.1)
    (subst (λ (a : ℕ). P (i / counters_of s) a i) (digits_mod h has.1) (all i (place_below s h c has)))
