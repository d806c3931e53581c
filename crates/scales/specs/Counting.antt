-- Counting: whole numbers modulo q^E.
use Rattle.std.specs.Prelude.{ℕ, zero, suc, ◌+◌, ◌-◌, ◌*◌, ◌/◌, ◌%◌, ◌^◌, cond, ◌==◌}
use Rattle.scale.specs.declared.Mark.{Mark}
use Rattle.scale.specs.Meaning.{Meaning}

-- how many of the low e digits of a number, in base q, are 0 before the first that is not
unfoldable pub zeros : ℕ → ℕ → ℕ → ℕ
zeros q zero a = 0
zeros q (suc e) a = cond (a % q == 0) (suc (zeros q e (a / q))) 0

-- whole numbers modulo q^E, with q for the step
abbrev pub counting : Mark → Meaning
counting k =
    let n : ℕ = k.base ^ k.length in
    record {
      mark = k;
      one = 1;
      step = k.base % n;
      sum = λ a b. (a + b) % n;
      negative = λ a. (n - a) % n;
      product = λ a b. (a * b) % n;
      level = zeros k.base k.length;
    }
