-- What the job program prints, as bytes.
use Rattle.std.specs.Prelude.{ℕ, zero, suc, ◌+◌, ◌*◌, ◌/◌, ◌%◌, Bool, true, false, ◌&&◌, cond, List, [], ◌∷◌, ◌++◌, eqb, ltb, get_or}
use Rattle.eval.specs.Config.{Config, Outcome, done, fault, stopped, spent, refused}
use Rattle.eval.specs.Counted.{Ended}

-- at most k decimal digits of n
unfoldable pub digits : ℕ → ℕ → List ℕ
digits zero n = []
digits (suc k) n = cond (ltb n 10) ((48 + n) ∷ []) (digits k (n / 10) ++ ((48 + n % 10) ∷ []))

-- a number below 2^64 in decimal
abbrev pub decimal : ℕ → List ℕ
decimal n = digits 20 n

-- a space and a number: a further field of a line
abbrev pub field : ℕ → List ℕ
field n = 32 ∷ decimal n

-- the end of a line
abbrev pub newline : List ℕ
newline = 10 ∷ []

-- "done"
abbrev pub word_done : List ℕ
word_done = 100 ∷ 111 ∷ 110 ∷ 101 ∷ []

-- "fault"
abbrev pub word_fault : List ℕ
word_fault = 102 ∷ 97 ∷ 117 ∷ 108 ∷ 116 ∷ []

-- "stopped"
abbrev pub word_stopped : List ℕ
word_stopped = 115 ∷ 116 ∷ 111 ∷ 112 ∷ 112 ∷ 101 ∷ 100 ∷ []

-- "spent"
abbrev pub word_spent : List ℕ
word_spent = 115 ∷ 112 ∷ 101 ∷ 110 ∷ 116 ∷ []

-- "refused"
abbrev pub word_refused : List ℕ
word_refused = 114 ∷ 101 ∷ 102 ∷ 117 ∷ 115 ∷ 101 ∷ 100 ∷ []

-- " at"
abbrev pub word_at : List ℕ
word_at = 32 ∷ 97 ∷ 116 ∷ []

-- "steps"
abbrev pub word_steps : List ℕ
word_steps = 115 ∷ 116 ∷ 101 ∷ 112 ∷ 115 ∷ []

-- "flags"
abbrev pub word_flags : List ℕ
word_flags = 102 ∷ 108 ∷ 97 ∷ 103 ∷ 115 ∷ []

-- "xmm"
abbrev pub word_xmm : List ℕ
word_xmm = 120 ∷ 109 ∷ 109 ∷ []

-- "cell"
abbrev pub word_cell : List ℕ
word_cell = 99 ∷ 101 ∷ 108 ∷ 108 ∷ []

-- the registers' names in state order: Rax, Rbx, Rcx, Rdx, Rsi, Rdi, Rbp, Rsp, then R8 to R15
unfoldable pub name_of : ℕ → List ℕ
name_of i =
    cond (ltb i 8)
    (82 ∷ get_or (97 ∷ 98 ∷ 99 ∷ 100 ∷ 115 ∷ 100 ∷ 98 ∷ 115 ∷ []) i 0 ∷ get_or (120 ∷ 120 ∷ 120 ∷ 120 ∷ 105 ∷ 105 ∷ 112 ∷ 112 ∷ []) i 0 ∷ [])
    (82 ∷ decimal i)

-- a word and a number to the end of the line
abbrev pub line : List ℕ → ℕ → List ℕ
line word n = word ++ field n ++ newline

-- a word, a number and a place
abbrev pub numbered_line : List ℕ → ℕ → ℕ → List ℕ
numbered_line word n p = word ++ field n ++ line word_at p

-- the first line
unfoldable pub first_line : Outcome → List ℕ
first_line done = word_done ++ newline
first_line (fault n p) = numbered_line word_fault n p
first_line (stopped n p) = numbered_line word_stopped n p
first_line (spent p) = word_spent ++ line word_at p
first_line (refused n p) = numbered_line word_refused n p

-- the registers from number i on, each that is not 0: name and number
unfoldable pub reg_lines : ℕ → List ℕ → List ℕ
reg_lines i [] = []
reg_lines i (r ∷ rs) = cond (eqb r 0) [] (name_of i ++ field r ++ newline) ++ reg_lines (suc i) rs

-- xmm i, where one of its words is not 0: its number and its four words, lo0 first
abbrev pub xmm_line : ℕ → ℕ → ℕ → ℕ → ℕ → List ℕ
xmm_line i a b c d =
    cond (eqb a 0 && eqb b 0 && eqb c 0 && eqb d 0) []
    (word_xmm ++ field i ++ field a ++ field b ++ field c ++ field d ++ newline)

-- n xmm from number i on
unfoldable pub xmm_lines : ℕ → ℕ → List ℕ → List ℕ
xmm_lines zero i ws = []
xmm_lines (suc n) i ws =
    xmm_line i (get_or ws (4 * i) 0) (get_or ws (4 * i + 1) 0) (get_or ws (4 * i + 2) 0) (get_or ws (4 * i + 3) 0)
    ++ xmm_lines n (suc i) ws

-- each cell as address, tag, value
unfoldable pub cell_lines : List ℕ → List ℕ → List ℕ → List ℕ
cell_lines [] ts vs = []
cell_lines (a ∷ xs) [] vs = []
cell_lines (a ∷ xs) (t ∷ ts) [] = []
cell_lines (a ∷ xs) (t ∷ ts) (v ∷ vs) = word_cell ++ field a ++ field t ++ field v ++ newline ++ cell_lines xs ts vs

-- the lines behind the first
abbrev pub end_lines : List ℕ → List ℕ → Config → ℕ → List ℕ
end_lines addresses tags s steps =
    line word_steps steps ++ line word_flags s.flags
    ++ reg_lines 0 s.regs ++ xmm_lines 16 0 s.xmms ++ cell_lines addresses tags s.values

-- whether an outcome prints its first line alone
abbrev pub is_refused : Outcome → Bool
is_refused done = false
is_refused (fault n p) = false
is_refused (stopped n p) = false
is_refused (spent p) = false
is_refused (refused n p) = true

-- what is printed of an end
unfoldable pub render : List ℕ → List ℕ → Ended → List ℕ
render addresses tags e =
    first_line e.end.how ++ cond (is_refused e.end.how) [] (end_lines addresses tags e.end.config e.counted.steps)
