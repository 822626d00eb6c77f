-- Refusals 1 to 5 of document 01: a test for each fault, in the words of its column (4 and 5 stand in crate keys), and the order.
-- Assumes nothing.
use Rattle.std.specs.Prelude.{Bool, ◌||◌, not, List, [], ◌∷◌, ℕ, eqb, ltb}
use Rattle.bits.specs.Choice.{pick, Fault, ◌given◌, first_of}
use Rattle.mac.specs.Algorithm.{algorithm_at, row, Keys}
use Rattle.keys.specs.Faults.{key_bytes_wrong, keys_same}
use Rattle.settings.specs.declared.Agreement.{Agreement}

-- 1: algorithm not 1..8
abbrev pub algorithm_wrong : ℕ → Bool
algorithm_wrong a = ltb a 1 || ltb 8 a

-- 2: padding not in the algorithm's row
abbrev pub padding_wrong : ℕ → ℕ → Bool
padding_wrong a p = pick (row (algorithm_at a)).four (not (eqb p 4)) (ltb p 1 || ltb 3 p)

-- 3: m outside its limit
abbrev pub size_wrong : ℕ → ℕ → Bool
size_wrong a m = ltb m 1 || ltb (row (algorithm_at a)).longest m

-- in this order; n is the number of key bytes, K the keys in use
unfoldable pub settings_faults : Agreement → ℕ → Keys → List Fault
settings_faults A n K =
    1 given algorithm_wrong A.algorithm ∷
    2 given padding_wrong A.algorithm A.padding ∷
    3 given size_wrong A.algorithm A.m ∷
    4 given key_bytes_wrong A.master A.algorithm n ∷
    5 given keys_same A.algorithm K ∷
    []

-- the refusal, 0 where there is none
unfoldable pub settings_refusal : Agreement → ℕ → Keys → ℕ
settings_refusal A n K = first_of (settings_faults A n K)
