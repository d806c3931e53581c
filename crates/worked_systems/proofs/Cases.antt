-- Statements on all numbers below a bound, and on lists of one, case by case.
use Rattle.std.proofs.Common.{ℕ, zero, suc, ◌<◌, [], ◌∷◌, below_more, arith}
use Rattle.std.specs.List.{All}
use Rattle.std.proofs.lemmas.List.Elements.{All-nil, All-push}

-- P holds of 0, of 1 and so on up to n - 1
abbrev pub Holds : (ℕ → Type 0) → ℕ → Type 0
Holds P zero = Unit {0}
Holds P (suc n) = Holds P n × P n

pub each : (P : ℕ → Type 0) (n : ℕ) → Holds P n → (i : ℕ) → i < n → P i
each P zero known i h = absurd (omega arith)
each P (suc n) known i h = below_more P n (each P n known.0) known.1 i (omega arith)

-- the same of two numbers
pub each_counter :
    (P : ℕ → ℕ → Type 0) (n k : ℕ) → Holds (λ h. Holds (P h) k) n → (h c : ℕ) → (h < n) × (c < k) → P h c
each_counter P n k known h c has = each (P h) k (each (λ i. Holds (P i) k) n known h has.0) c has.1

pub alone : {X : Type 0} (P : X → Type 0) (x : X) → P x → All P (x ∷ [])
alone P x known = All-push P [] x (All-nil P) known
