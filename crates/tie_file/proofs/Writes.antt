-- A file of which all parts were put is written.
use Rattle.std.proofs.Common.{◌≡◌, ℕ, ◌+◌, ◌≤◌, List, length, take, drop, sym, ◌∙◌, subst, inl, inr, arith, ext_get_or}
use Rattle.std.proofs.Math.ListN.{get_or-eq_default}
use Rattle.std.proofs.lemmas.Bool.{cases_lt}
use Rattle.std.proofs.lemmas.List.{get_or-drop, get_or-take, length-drop, length-take-le}
use Rattle.scale.specs.declared.Mark.{Mark}
use Rattle.ties.specs.Equations.{Equation}
use Rattle.ties.specs.Layouts.{Shape}
use Rattle.tie_file.specs.Writing.{Bytes, States, Written, file_size}
use Rattle.tie_file.specs.Putting.{Begun, Small}
use Rattle.tie_file.proofs.Laying.{laid}
use Rattle.tie_file.proofs.Stating.{states}
use Rattle.tie_file.proofs.Unique.{unique}

pub written :
    (k : Mark) (s : Shape) (es : List Equation) (old f : List ℕ) (n : ℕ)
    → n ≡ file_size s es
    → n ≤ length old
    → n ≤ 12943
    → length es ≤ 64
    → Small es (length es)
    → Bytes f
    → Begun k s es (length es) old f
    → Written k s es old f n
written k s es old f n size room most few small bytes begun =
    record {
      size = size;
      room = room;
      long = begun.long;
      states = here;
      only = λ h hb is. unique k s es h (take n f) hb front is here;
      kept = ext_get_or 0 (drop n f) (drop n old) same_length (λ i l.
          get_or-drop n f i 0 ∙ begun.kept (n + i) (omega (arith, size)) ∙ sym (get_or-drop n old i 0));
    }
  where
    here : States k s es (take n f)
    here =
        subst (λ (m : ℕ). States k s es (take m f)) (sym size)
        (let all = laid k s es old f (omega (arith, size, room)) begun in
        states k s es (take (file_size s es) f) all few (omega (arith, all.size, size, most)) small)

    same_length : length (drop n f) ≡ length (drop n old)
    same_length =
        let a = length-drop n f in
        let b = length-drop n old in
        omega (arith, a, b, begun.long)

    front : Bytes (take n f)
    front i = elim (cases_lt i n) [
      | inl h ↦ omega (arith, get_or-take n f i 0 h, bytes i)
      | inr h ↦ omega (arith, get_or-eq_default (take n f) 0 {n = i} (omega (arith, h, length-take-le n f (omega (arith, begun.long, room)))))
    ]
