-- Bytes that are written one piece after another. The last piece may be cut.
use Rattle.std.proofs.Common.{ℕ, List, [], ◌++◌, Option, OnErr, Ok, Err, Result, ap, ◌∙◌, sym, append_assoc}
use Rattle.std.specs.Io.KnownBytes.{Appends, Keeps}
use Rattle.std.proofs.KnownBytes.{Appends-kept, Appends-trans}
use Rattle.std.proofs.lemmas.List.{append-nil}
use Rattle.report_core.specs.Bytes.{AppendsFront}

pub AppendsFront-more : (old new : Option (List ℕ)) (bytes more : List ℕ) → AppendsFront old new bytes → AppendsFront old new (bytes ++ more)
AppendsFront-more old new bytes more f = record {
  front = f.front;
  rest = f.rest ++ more;
  whole = ap (λ xs. xs ++ more) f.whole ∙ append_assoc f.front f.rest more;
  appended = f.appended;
}

pub AppendsFront-behind : (old middle new : Option (List ℕ)) (bytes more : List ℕ) → Appends old middle bytes → AppendsFront middle new more → AppendsFront old new (bytes ++ more)
AppendsFront-behind old middle new bytes more appended f = record {
  front = bytes ++ f.front;
  rest = f.rest;
  whole = ap (λ xs. bytes ++ xs) f.whole ∙ sym (append_assoc bytes f.front f.rest);
  appended = Appends-trans old middle new bytes f.front appended f.appended;
}

-- all of the bytes, and nothing since
pub AppendsFront-whole : (old middle new : Option (List ℕ)) (bytes : List ℕ) → Appends old middle bytes → Keeps middle new → AppendsFront old new bytes
AppendsFront-whole old middle new bytes appended kept = record {
  front = bytes;
  rest = [];
  whole = sym (append-nil bytes);
  appended = Appends-kept old middle new bytes appended kept;
}

-- what holds in any case
pub OnErr-always : {T E : Type 0} (result : Result T E) (P : Type 0) → P → OnErr result P
OnErr-always (Ok value) P p = tt
OnErr-always (Err error) P p = p
