-- Numberings: the same arithmetic under other codes.
use Rattle.std.specs.Prelude.{ℕ, zero, suc, ◌/◌, bit_xor}
use Rattle.scale.specs.Meaning.{Meaning}

-- the arithmetic of positions, carried to codes: `code` gives a position's code, `position` a code's position
abbrev pub renumbered : (ℕ → ℕ) → (ℕ → ℕ) → Meaning → Meaning
renumbered code position m =
    record {
      mark = m.mark;
      one = code m.one;
      step = code m.step;
      sum = λ a b. code (m.sum (position a) (position b));
      negative = λ a. code (m.negative (position a));
      product = λ a b. code (m.product (position a) (position b));
      level = λ a. m.level (position a);
    }

-- the reflected Gray code of a position
abbrev pub gray : ℕ → ℕ
gray p = bit_xor p (p / 2)

-- the position of a reflected Gray code of at most k digits
unfoldable pub ungray : ℕ → ℕ → ℕ
ungray zero c = 0
ungray (suc k) c = bit_xor c (ungray k (c / 2))
