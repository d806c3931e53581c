-- What is true of every book.
use Rattle.std.proofs.Common.{◌≡◌, ℕ, ◌+◌, ◌*◌, List, length, sym, ◌∙◌, subst, vec_len, vec_items}
use lib.ListN.{length-map}
use Rattle.scale.specs.Meaning.{Laws, Meaning}
use Rattle.ties.specs.Layouts.{places, shape}
use Rattle.book.specs.declared.table.Table.{Table}
use Rattle.book.specs.Drawing.{sheet_of}
use Rattle.book.specs.Held.{Held, Ready}
use Rattle.book.specs.Rows.{Codes}
use Rattle.book.specs.Standing.{equation_of, ledger}
use Rattle.book.proofs.Posts.{stands_codes}

-- as many ties stand as the ledger has
pub ledger_length : (t : Table) → length (ledger t) ≡ vec_len t.standing
ledger_length t = length-map (vec_items t.standing) equation_of ∙ sym t.standing.ok.0

module _ {S : Type 0} {meaning : S → Meaning} (laws : (x : S) → Laws (meaning x)) {b : Held S} (ready : Ready meaning b) where
  -- its rows are codes, as many as a sheet has
  pub rows_sheet :
      (xs : List ℕ)
      → xs ≡ sheet_of b
      → Codes (meaning b.scale) xs × (length xs ≡ places (shape b.layout) + places (shape b.layout) * places (shape b.layout))
  rows_sheet xs is =
      let n = places (shape b.layout) in
      subst (λ (ys : List ℕ). Codes (meaning b.scale) ys × (length ys ≡ n + n * n)) (sym is)
      (stands_codes (meaning b.scale) (laws b.scale) (shape b.layout) b.table ready.within ready.stands)
