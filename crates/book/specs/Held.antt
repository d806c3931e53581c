-- What a book holds.
use Rattle.std.specs.Prelude.{◌≤◌, vec_capacity, vec_len}
use Rattle.scale.specs.Meaning.{Meaning}
use Rattle.ties.specs.declared.layout.Layout.{Layout}
use Rattle.ties.specs.Layouts.{Within, shape}
use Rattle.book.specs.declared.table.Table.{Table}
use Rattle.book.specs.Standing.{Stands}

-- a scale, a layout, and the table of the standing ties
pub record Held (S : Type 0) : Type 0 where
  pub scale : S
  pub layout : Layout
  pub table : Table

-- as it is in every book: the layout is the scale's, the table is what the standing ties made of an empty one, 64 ties
-- stand at most, and it has room for them
pub record Ready {S : Type 0} (meaning : S → Meaning) (b : Held S) : Type 0 where
  pub within : Within (meaning b.scale) (shape b.layout)
  pub stands : Stands (meaning b.scale) (shape b.layout) b.table
  pub few : vec_len b.table.standing ≤ 64
  pub room : 64 ≤ vec_capacity b.table.standing
