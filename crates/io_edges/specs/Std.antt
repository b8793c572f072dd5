-- Sources and sinks over the readers and writers of the standard library.
use Rattle.std.specs.Prelude.{ℕ}

-- a reader, and its count of faults
pub record OverReader (R : Type 0) : Type 0 where
  pub reader : R
  pub faults : ℕ

-- a writer, and its count of faults
pub record OverWriter (W : Type 0) : Type 0 where
  pub writer : W
  pub faults : ℕ
