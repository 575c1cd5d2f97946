-- What a buffer holds.
use Rattle.std.specs.Prelude.{List, ℕ, take}
use Rattle.vectors.specs.declared.bytes.Bytes.{Bytes}

-- the bytes that were put into it
abbrev pub bytes_of : Bytes → List ℕ
bytes_of b = take b.count b.held
