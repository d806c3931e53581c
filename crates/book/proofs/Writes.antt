-- A file whose ties are just those that stand is written again.
use Rattle.std.proofs.Common.{◌≡◌, ℕ, ◌<◌, ◌≤◌, List, length, map, Some, None, Option, Ok, Err, Result, MatchOption, MatchResult, vec_items, vec_len, sym, ap, subst, subst₂, inl, inr, arith}
use Rattle.std.specs.Option.{ok_or}
use Rattle.scale.specs.declared.Mark.{Mark}
use Rattle.scale.specs.Meaning.{Meaning}
use Rattle.ties.specs.Layouts.{shape}
use Rattle.tie_file.specs.Bodies.{equations}
use Rattle.tie_file.specs.Writing.{States, Unwritten, Written, file_size}
use Rattle.tie_file.proofs.Unique.{long_stated}
use Rattle.book.specs.declared.fault.WriteFault.{WriteFault}
use Rattle.book.specs.declared.fault.WriteFault.TheVariants.{List as Short}
use Rattle.book.specs.declared.standing.Standing.{Standing}
use Rattle.book.specs.Held.{Held}
use Rattle.book.specs.Loading.{Loadable}
use Rattle.book.specs.Standing.{equation_of, ledger}
use Rattle.book.proofs.Books.{ledger_length}
use Rattle.book.specs.Writing.{Again, WriteStopped, WrittenFrom}

module _ {S : Type 0} (meaning : S → Meaning) (b : Held S) (old new : List ℕ) where
  states :
      (f : List ℕ)
      → Loadable (meaning b.scale) (shape b.layout) f
      → equations f ≡ ledger b.table
      → States (meaning b.scale).mark (shape b.layout) (ledger b.table) f
  states f fits same = record { formed = fits.formed; mark = fits.mark; shape = fits.shape; equations = same }

  pub again :
      (r : Result ℕ WriteFault)
      → MatchResult r (WrittenFrom meaning b old new) (λ _. WriteStopped b old new)
      → Again meaning b old new r
  again (Ok n) written f bytes fits same = sym (written.only f bytes (states f fits same))
  again (Err e) short f bytes fits same =
      let long = long_stated (meaning b.scale).mark (shape b.layout) (ledger b.table) f (states f fits same) in
      omega (arith, long, short.0)

  -- what a book answers, by what writing its ties answers
  pub told :
      (k : Mark) (ks : List Standing) (o : Option ℕ) (r : Result ℕ WriteFault)
      → k ≡ (meaning b.scale).mark
      → ks ≡ vec_items b.table.standing
      → vec_len b.table.standing ≤ 64
      → MatchOption o (Unwritten (shape b.layout) (map equation_of ks) old new) (Written k (shape b.layout) (map equation_of ks) old new)
      → r ≡ ok_or o Short
      → MatchResult r (WrittenFrom meaning b old new) (λ _. WriteStopped b old new)
  told k ks (Some n) r mark all few written is =
      subst (λ q. MatchResult q (WrittenFrom meaning b old new) (λ _. WriteStopped b old new)) (sym is)
      (subst₂ (λ j es. Written j (shape b.layout) es old new n) mark (ap (map equation_of) all) written)
  told k ks None r mark all few unwritten is =
      subst (λ q. MatchResult q (WrittenFrom meaning b old new) (λ _. WriteStopped b old new)) (sym is)
      (elim unwritten.0 [
        | inl many ↦ absurd (omega (arith, many, few, ledger_length b.table, ap (λ es. length (map equation_of es)) all))
        | inr short ↦ (subst (λ es. length old < file_size (shape b.layout) es) (ap (map equation_of) all) short, unwritten.1)
      ])
