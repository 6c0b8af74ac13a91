-- Checking code: reading goes front to back and stops at the first trouble.
use Rattle.std.specs.Prelude.{ℕ, zero, suc, ◌+◌, ◌-◌, Bool, not, ◌||◌, cond, List, [], ◌∷◌, eqb, ltb, leb, length}
use Rattle.machine.specs.Cells.{Verdict, accepted, refused}
use Rattle.machine.specs.Operands.{is_scale}
use Rattle.code.specs.declared.tree.Ocmp.{Ocmp}
use Rattle.code.specs.Layout.{Field, register, scale}
use Rattle.code.specs.Tree.{Code, Ins, Block, IfElse, While, Codes, ⟨⟩, ◌∷ᶜ◌}
use Rattle.code.specs.Records.{is_ins, is_code, is_ocmp, is_operand, operand_count, judged_fields, byte_at, number_at, signed_at, behind, ins_at, ocmp_at}

-- what was read and the place behind it, or the first trouble with its number and place
pub data Read (A : Type 0) : Type 0 where
  got : A → ℕ → Read A
  trouble : ℕ → ℕ → Read A

-- reading goes on behind what was read
unfoldable pub followed : {A B : Type 0} → Read A → (A → ℕ → Read B) → Read B
followed (got a next) k = k a next
followed (trouble n p) k = trouble n p

-- reading goes on, unless a test says that there is trouble
abbrev pub unless : {A : Type 0} → Bool → ℕ → ℕ → Read A → Read A
unless b n p k = cond b (trouble n p) k

-- 3 and 2: a byte of the part is left for the kind, and the kind is allowed there
abbrev pub with_kind : {A : Type 0} → (ℕ → Bool) → List ℕ → ℕ → ℕ → Read A → Read A
with_kind allowed bs e at k = unless (leb e at) 3 at (unless (not (allowed (byte_at bs at))) 2 at k)

-- 3: the body is not cut short by the end of the part
abbrev pub with_body : {A : Type 0} → List ℕ → ℕ → ℕ → Read A → Read A
with_body bs e at k = unless (ltb e (behind bs at)) 3 at k

-- 4 and 7, from left to right: each register or xmm number is at most 15, and each scale, of two bytes, is one of the four
unfoldable pub with_fields : {A : Type 0} → List Field → List ℕ → ℕ → Read A → Read A
with_fields [] bs at k = k
with_fields (register f ∷ fs) bs at k = unless (ltb 15 (byte_at bs (at + f))) 4 (at + f) (with_fields fs bs at k)
with_fields (scale f ∷ fs) bs at k = unless (not (is_scale (signed_at 2 bs (at + f)))) 7 (at + f) (with_fields fs bs at k)

-- a record of an allowed kind without its operands: the place behind its body
unfoldable pub read_record : (ℕ → Bool) → List ℕ → ℕ → ℕ → Read (Unit {0})
read_record allowed bs e at =
    with_kind allowed bs e at
    (with_body bs e at (with_fields (judged_fields (byte_at bs at)) bs at (got tt (behind bs at))))

-- n operand records
unfoldable pub read_operands : ℕ → List ℕ → ℕ → ℕ → Read (Unit {0})
read_operands zero bs e at = got tt at
read_operands (suc n) bs e at = followed (read_record is_operand bs e at) (λ _ next. read_operands n bs e next)

-- a record with its operands, which says a
unfoldable pub read_with : {A : Type 0} → (ℕ → Bool) → A → List ℕ → ℕ → ℕ → Read A
read_with allowed a bs e at =
    followed (read_record allowed bs e at) (λ _ next.
    followed (read_operands (operand_count (byte_at bs at)) bs e next) (λ _ last. got a last))

-- a comparison
unfoldable pub read_ocmp : List ℕ → ℕ → ℕ → Read Ocmp
read_ocmp bs e at = read_with is_ocmp (ocmp_at bs at) bs e at

-- the reading of one code in the part that ends at e
abbrev pub One : Type 0
One = ℕ → ℕ → Read Code

-- one code that fills the part from `at` to e
unfoldable pub read_part : One → ℕ → ℕ → Read Code
read_part one e at = followed (one e at) (λ c next. unless (not (eqb next e)) 6 next (got c e))

-- the codes of a Block, from `at` to e; n, the bytes from `at` to e, bounds their number, since each takes a byte at least
unfoldable pub read_codes : One → ℕ → ℕ → ℕ → Read Codes
read_codes one zero e at = got ⟨⟩ e
read_codes one (suc n) e at =
    cond (eqb at e) (got ⟨⟩ e)
    (followed (one e at) (λ c next. followed (read_codes one n e next) (λ cs last. got (c ∷ᶜ cs) last)))

-- a Block: a 4-byte length of its codes
unfoldable pub read_block : One → List ℕ → ℕ → ℕ → Read Code
read_block one bs e at =
    let size = number_at 4 bs (at + 1) in
    unless (ltb (e - (at + 5)) size) 6 at
    (followed (read_codes one size (at + 5 + size) (at + 5)) (λ cs last. got (Block at cs) last))

-- an IfElse: two 4-byte lengths, a comparison, the true and the false part
unfoldable pub read_if : One → List ℕ → ℕ → ℕ → Read Code
read_if one bs e at =
    let size = number_at 4 bs (at + 1) in
    let other = number_at 4 bs (at + 5) in
    followed (read_ocmp bs e (at + 9)) (λ c next.
    unless (ltb (e - next) (size + other)) 6 at
    (followed (read_part one (next + size) next) (λ yes_part mid.
    followed (read_part one (mid + other) mid) (λ no_part last. got (IfElse at (at + 9) c yes_part no_part) last))))

-- a While: one 4-byte length, a comparison, the part
unfoldable pub read_while : One → List ℕ → ℕ → ℕ → Read Code
read_while one bs e at =
    let size = number_at 4 bs (at + 1) in
    followed (read_ocmp bs e (at + 5)) (λ c next.
    unless (ltb (e - next) size) 6 at
    (followed (read_part one (next + size) next) (λ body last. got (While at (at + 5) c body) last)))

-- a structure, by its kind
unfoldable pub read_structure : One → List ℕ → ℕ → ℕ → Read Code
read_structure one bs e at =
    cond (eqb (byte_at bs at) 0x20) (read_block one bs e at)
    (cond (eqb (byte_at bs at) 0x21) (read_if one bs e at) (read_while one bs e at))

-- an instruction or a structure, by its kind
unfoldable pub read_body : One → List ℕ → ℕ → ℕ → Read Code
read_body one bs e at =
    cond (is_ins (byte_at bs at))
    (read_with is_code (Ins at (ins_at bs at)) bs e at)
    (with_body bs e at (read_structure one bs e at))

-- a code where d levels are left, its own counted; 5 where none is
unfoldable pub read_code : ℕ → List ℕ → One
read_code zero bs e at = with_kind is_code bs e at (trouble 5 at)
read_code (suc d) bs e at = with_kind is_code bs e at (read_body (read_code d bs) bs e at)

-- the code that all the bytes spell, or the first trouble; 1 for a length of 0 or above 16,384
unfoldable pub parse : List ℕ → Read Code
parse bs =
    unless (eqb (length bs) 0 || ltb 16384 (length bs)) 1 0 (read_part (read_code 32 bs) (length bs) 0)

-- what a reading says
unfoldable pub verdict_of : {A : Type 0} → Read A → Verdict
verdict_of (got a next) = accepted
verdict_of (trouble n p) = refused n p

-- Checking code
unfoldable pub check_code : List ℕ → Verdict
check_code bs = verdict_of (parse bs)
