-- The small secret of the paper's worked cases ("At the edges"), its two keys, and calls with them:
-- what is lent for outputs and working space holds anything. Assumes nothing.
use Rattle.std.specs.Prelude.{refl, List, [], ◌∷◌, ℕ, replicate}
use Rattle.std.proofs.Common.{arith}
use Rattle.trits.specs.Planes.{pair_of}
use Rattle.matrix.specs.Linear.{Vector}
use Rattle.trits.specs.InDigits.{vector, digits, matrix}
use Rattle.verdict.specs.Verdict.{Key}
use Rattle.scheme.specs.declared.sizes.Sizes.{Sizes}
use Rattle.scheme.specs.Secret.{Secret}
use Rattle.scheme.specs.Draw.{Choices, drawn, draw_refusal}
use Rattle.calls.specs.Lent.{Planes}
use Rattle.calls.specs.BuildCall.{BuildCall}
use Rattle.calls.specs.DrawCall.{DrawCall}
use Rattle.wave.specs.Verifier.{Host}

-- ---- over vectors

-- n = 4 and k_U = k_V = 1, at gaps g_V and g_U and a weight
abbrev pub sizes4 : ℕ → ℕ → ℕ → Sizes
sizes4 gv gu w = record { n = 4; ku = 1; kv = 1; gv = gv; gu = gu; w = w }

-- H_U = (1 1), H_V = (1 2), b = (0,1), c = (1,2)
abbrev pub secret4 : Secret
secret4 = record { hu = matrix ((1 ∷ 1 ∷ []) ∷ []); hv = matrix ((1 ∷ 2 ∷ []) ∷ []); b = vector (0 ∷ 1 ∷ []); c = vector (1 ∷ 2 ∷ []) }

-- the first key is built from the starting order (0,1,2,3), and its p is the same
abbrev pub start1 : List ℕ
start1 = 0 ∷ 1 ∷ 2 ∷ 3 ∷ []

abbrev pub key1 : Key
key1 = matrix ((0 ∷ 2 ∷ []) ∷ (2 ∷ 2 ∷ []) ∷ [])

-- the second from (1,2,0,3), and its p, which is not its own inverse, is (1,3,0,2)
abbrev pub start2 : List ℕ
start2 = 1 ∷ 2 ∷ 0 ∷ 3 ∷ []

abbrev pub p2 : List ℕ
p2 = 1 ∷ 3 ∷ 0 ∷ 2 ∷ []

abbrev pub key2 : Key
key2 = matrix ((2 ∷ 2 ∷ []) ∷ (2 ∷ 0 ∷ []) ∷ [])

-- y = 12
abbrev pub y4 : Vector
y4 = vector (1 ∷ 2 ∷ [])

-- a draw with both orders (0,1), a V trit and a U value
abbrev pub choose : ℕ → ℕ → Choices
choose v u = record { order_v = 0 ∷ 1 ∷ []; trits_v = vector (v ∷ []); order_u = 0 ∷ 1 ∷ []; values_u = vector (u ∷ []) }

-- its word and its refusal under the first key, at gaps g_V and g_U and a weight
abbrev pub word4 : ℕ → ℕ → ℕ → ℕ → ℕ → List ℕ
word4 gv gu w v u = digits 4 (drawn (sizes4 gv gu w) secret4 start1 y4 (choose v u))

abbrev pub refusal4 : ℕ → ℕ → ℕ → ℕ → ℕ → ℕ
refusal4 gv gu w v u = draw_refusal (sizes4 gv gu w) secret4 start1 y4 (choose v u)

-- ---- as calls

-- the same secret in planes
abbrev pub planes4 : Planes
planes4 = record { hu = pair_of (3 ∷ []) (0 ∷ []); hv = pair_of (1 ∷ []) (2 ∷ []); b = pair_of (2 ∷ []) (0 ∷ []); c = pair_of (1 ∷ []) (2 ∷ []) }

-- a build from a starting order
abbrev pub build4 : List ℕ → BuildCall
build4 start = record {
  secret = planes4;
  start = start;
  p = 9 ∷ 9 ∷ 9 ∷ 9 ∷ [];
  key = pair_of (5 ∷ 6 ∷ []) (7 ∷ 8 ∷ []);
  work = pair_of (replicate 490 3) (replicate 490 4);
}

-- a draw under p for y = 12 with both orders (0,1), a V trit and a U value, each by its two planes
abbrev pub draw4 : List ℕ → ℕ → ℕ → ℕ → ℕ → DrawCall
draw4 p v1 v2 u1 u2 = record {
  secret = planes4;
  p = p;
  y = pair_of (1 ∷ []) (2 ∷ []);
  order_v = 0 ∷ 1 ∷ [];
  v = pair_of (v1 ∷ []) (v2 ∷ []);
  order_u = 0 ∷ 1 ∷ [];
  u = pair_of (u1 ∷ []) (u2 ∷ []);
  word = pair_of (5 ∷ []) (6 ∷ []);
  s = pair_of (7 ∷ []) (8 ∷ []);
  work = pair_of (replicate 249 5) (replicate 249 6);
}

-- a module's host with key number 7, which never held a key
abbrev pub host4 : Host (sizes4 0 0 4)
host4 = record {
  number = 7;
  before = record { begun = 0; number = 0; n = 0; k = 0; w = 0; rows = 0 };
  ones = 5 ∷ 6 ∷ [];
  twos = 7 ∷ 8 ∷ [];
  row_bytes = λ j. 9 ∷ [];
  y_bytes = 9 ∷ [];
  s_bytes = 9 ∷ [];
  work_ones = 5 ∷ [];
  work_twos = 6 ∷ [];
  number_fits = omega arith;
  ones_size = refl;
  twos_size = refl;
  row_bytes_size = λ j l. refl;
  y_bytes_size = refl;
  s_bytes_size = refl;
  work_ones_size = refl;
  work_twos_size = refl;
}
