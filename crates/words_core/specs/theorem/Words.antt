-- The identity of a set of words, as contracts see it.
use Rattle.std.specs.Prelude.{ℕ}
use Rattle.atomic_table.specs.Seated.{TableId}
use Rattle.words_core.specs.declared.words.Sizes.{Sizes}

-- a value that no other set of words has, and the number of its contexts, buffers and flags
pub record WordsModel : Type 0 where
  pub table : TableId
  pub contexts : ℕ
  pub buffers : ℕ
  pub flags : ℕ

abbrev pub words_of : TableId → Sizes → WordsModel
words_of table sizes = record { table = table; contexts = sizes.contexts; buffers = sizes.buffers; flags = sizes.flags }

abbrev pub sizes_of : WordsModel → Sizes
sizes_of words = record { contexts = words.contexts; buffers = words.buffers; flags = words.flags }
