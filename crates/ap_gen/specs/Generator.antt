-- The program that a seed and a size give.
use Rattle.std.specs.Prelude.{ℕ, zero, suc, ◌+◌, ◌*◌, ◌/◌, ◌%◌, List, [], ◌∷◌, ◌++◌, codes, decimal}

-- the n-th number of the linear congruential sequence that begins with the seed
abbrev pub state : ℕ → ℕ → ℕ
state seed zero = seed % 2147483648
state seed (suc n) = (1103515245 * state seed n + 12345) % 2147483648

-- the n-th element: below 1000, from the upper bits
abbrev pub element : ℕ → ℕ → ℕ
element seed n = state seed n / 65536 % 1000

-- the first n elements, from the first on
abbrev pub elements : ℕ → ℕ → List ℕ
elements seed zero = []
elements seed (suc n) = elements seed n ++ element seed (suc n) ∷ []

-- numbers in decimal, each behind a comma
abbrev pub behind_commas : List ℕ → List ℕ
behind_commas [] = []
behind_commas (n ∷ ns) = 44 ∷ decimal n ++ behind_commas ns

-- numbers in decimal, parted by commas
abbrev pub parted : List ℕ → List ℕ
parted [] = []
parted (n ∷ ns) = decimal n ++ behind_commas ns

abbrev pub data_clause : List ℕ → List ℕ
data_clause ns = codes "data([" ++ parted ns ++ codes "]).\n"

-- The sum of a list by halves, which are dealt out in turns, and a tree of calls of a depth that is given.
abbrev pub rules : List ℕ
rules =
    codes "total([],0).\n"
    ++ codes "total([E|L],S) :- deal(L,A,B), total(A,SA), total(B,SB), S is SA + SB + E.\n"
    ++ codes "deal([],[],[]).\n"
    ++ codes "deal([E|L],[E|A],B) :- deal(L,B,A).\n"
    ++ codes "tsum(0,1).\n"
    ++ codes "tsum(N,S) :- N > 0, M is N - 1, tsum(M,A), tsum(M,B), S is A + B.\n"

abbrev pub workload : ℕ → ℕ → List ℕ
workload seed size = data_clause (elements seed size) ++ rules

-- what is asked of it
abbrev pub question : List ℕ
question = codes "?- data(D), total(D,N), tsum(10,S).\n"
