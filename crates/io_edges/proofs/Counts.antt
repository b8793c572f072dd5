-- Counts of faults over several calls.
use Rattle.std.proofs.Common.{ℕ, inl, inr, arith}
use Rattle.io_edges.specs.Faults.{Rose, NeverFalls}

-- a count that did not fall and then rose has risen
pub NeverFalls-Rose : (a b c : ℕ) → NeverFalls a b → Rose b c → Rose a c
NeverFalls-Rose a b c kept (inl rose) = inl (omega arith)
NeverFalls-Rose a b c kept (inr (b-most, c-most)) = grind arith

-- a count that rose and then did not fall has risen
pub Rose-NeverFalls : (a b c : ℕ) → Rose a b → NeverFalls b c → Rose a c
Rose-NeverFalls a b c (inl rose) kept = inl (omega arith)
Rose-NeverFalls a b c (inr (a-most, b-most)) kept = grind arith

-- a count that rose did not fall
pub Rose-kept : (a b : ℕ) → Rose a b → NeverFalls a b
Rose-kept a b (inl rose) = omega arith
Rose-kept a b (inr (a-most, b-most)) = omega arith
