-- The bytes of a part of a list.
use Rattle.std.proofs.Common.{◌≡◌, ℕ, ◌+◌, ◌<◌, List, get_or, take, drop, ap, ◌∙◌}
use Rattle.std.proofs.lemmas.List.{get_or-drop, get_or-take}

-- of a part of some length
pub part_byte :
    (f p : List ℕ) (from size k n : ℕ) → p ≡ take size (drop from f) → k < size → from + k ≡ n → get_or p k 0 ≡ get_or f n 0
part_byte f p from size k n e h s =
    ap (λ (q : List ℕ). get_or q k 0) e ∙ get_or-take size (drop from f) k 0 h ∙ get_or-drop from f k 0
    ∙ ap (λ (m : ℕ). get_or f m 0) s
