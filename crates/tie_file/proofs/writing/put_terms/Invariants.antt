use Rattle.std.proofs.Common.{◌*◌}
use Rattle.tie_file.specs.Putting.{KeptBut, TermsAt}
use Rattle.tie_file.proofs.writing.put_terms.Given as goal

abbrev pub invariant-loop-i : goal.invariant-loop-i
invariant-loop-i l = TermsAt l.list l.at l.terms l.i × KeptBut l.at (6 * l.i) l.initial.list l.list
