-- The claims of request 2026-03, in one record: `Telling`. From the number of a Fault, the code at its place and the state that it hands back, the reason
-- follows; and from the reason the number. Sources are judged from left to right, then amounts and immediates, then destinations. That the source
-- fails its first check there with this number is the second demand's.
use Rattle.std.specs.Prelude.{ℕ, ◌^◌, ◌≤◌, ◌≡◌, Bool, true, false, List, [], ◌∷◌, ◌++◌, map, reverse, ◌⊎◌, ℤ, pos, negsuc}
use Rattle.std.proofs.Math.Option.{Option, none}
use Rattle.machine.specs.Registers.{Rsp}
use Rattle.machine.specs.Operands.{eval_maddr}
use Rattle.machine.specs.Cells.{accepted, check_cells}
use Rattle.machine.specs.declared.Maddr.{Maddr}
use Rattle.machine.specs.declared.Operand.{Operand}
use Rattle.machine.specs.declared.Operand.TheVariants.{OConst, OReg, OMem}
use Rattle.code.specs.declared.tree.Instruction.{Instruction}
use Rattle.code.specs.declared.tree.Ocmp.{Ocmp}
use Rattle.code.specs.Families.{at_kind}
use Rattle.code.specs.Layout.{layout, ocmp_layout}
use Rattle.code.specs.Tree.{Code}
use Rattle.code.specs.Reader.{got, parse}
use Rattle.eval.specs.Config.{Env, Config, with_flags, ends, done, fault}
use Rattle.eval.specs.Instructions.{cell_of, valid_operand, valid_dst_operand, update_operand, act, run_ins}
use Rattle.eval.specs.Running.{run_ocmp, run_of}
use Rattle.demands.specs.Somewhere.{Somewhere}

-- an exact address below 0 or above 2^64 - 1
abbrev pub OutOfRange : ℤ → Type 0
OutOfRange (pos n) = 2 ^ 64 ≤ n
OutOfRange (negsuc n) = Unit {0}

-- an operand is memory whose exact address in s is out of range
pub record Wild (o : Operand) (s : Config) : Type 0 where
  pub memory : Maddr
  pub is_memory : o ≡ OMem memory
  pub out : OutOfRange (eval_maddr memory s.regs)

-- rules that all hold
abbrev pub AllHold : List (Bool × ℕ) → Type 0
AllHold [] = Unit {0}
AllHold (c ∷ cs) = (c.0 ≡ true) × AllHold cs

-- rules of which the first that does not hold has the number n
abbrev pub FirstBroken : List (Bool × ℕ) → ℕ → Type 0
FirstBroken [] n = ⊥
FirstBroken (c ∷ cs) n = ((c.0 ≡ false) × (n ≡ c.1)) ⊎ ((c.0 ≡ true) × FirstBroken cs n)

module _ (env : Env) where
  -- an operand is memory whose exact address is in range, but without a 64-bit cell there
  pub record Absent (o : Operand) (s : Config) : Type 0 where
    pub memory : Maddr
    pub is_memory : o ≡ OMem memory
    pub not_out : OutOfRange (eval_maddr memory s.regs) → ⊥
    pub no_cell : cell_of env memory s ≡ none

  -- what a source, a shift amount or an operand of a comparison fails by, with its number
  pub data Unread (o : Operand) (s : Config) (n : ℕ) : Type 0 where
    wild_src : n ≡ 36 → Wild o s → Unread o s n
    absent_src : n ≡ 31 → Absent o s → Unread o s n

  -- what a destination fails by
  pub data Unwritten (o : Operand) (s : Config) (n : ℕ) : Type 0 where
    wild_dst : n ≡ 36 → Wild o s → Unwritten o s n
    absent_dst : n ≡ 32 → Absent o s → Unwritten o s n
    constant : n ≡ 32 → (v : ℕ) → o ≡ OConst v → Unwritten o s n
    rsp : n ≡ 32 → o ≡ OReg Rsp → Unwritten o s n

  -- sources that can all be read
  abbrev pub AllRead : Config → List Operand → Type 0
  AllRead s [] = Unit {0}
  AllRead s (o ∷ os) = (valid_operand env o s ≡ true) × AllRead s os

  -- sources of which the first that cannot be read fails with n
  abbrev pub FirstUnread : Config → List Operand → ℕ → Type 0
  FirstUnread s [] n = ⊥
  FirstUnread s (o ∷ os) n = Unread o s n ⊎ ((valid_operand env o s ≡ true) × FirstUnread s os n)

  -- destinations of which the first that cannot be written fails with n, each in the configuration that the writes before it leave
  abbrev pub FirstUnwritten : Config → List (Operand × ℕ) → ℕ → Type 0
  FirstUnwritten t [] n = ⊥
  FirstUnwritten t (w ∷ ws) n =
      Unwritten w.0 t n ⊎ ((valid_dst_operand env w.0 t ≡ true) × FirstUnwritten (update_operand env w.0 w.1 t) ws n)

  -- an instruction fails in s with n: by a source, then by a rule, then by a destination
  abbrev pub Fails : Instruction → Config → ℕ → Type 0
  Fails i s n =
      let a = act env i s in
      FirstUnread s a.sources n
      ⊎ (AllRead s a.sources × (FirstBroken a.rules n ⊎ (AllHold a.rules × FirstUnwritten s a.words n)))

  -- what stands at p in a code, an instruction or a comparison, fails in t with n
  abbrev pub FailsAt : Code → ℕ → Config → ℕ → Type 0
  FailsAt c p t n = Somewhere (λ q i. (q ≡ p) × Fails i t n) (λ q o. (q ≡ p) × FirstUnread t (ocmp_layout o).operands n) c

-- the numbers of the rules of each kind: 33 of Shr64 and Shl64, 34 of Pslld and Psrld, 35 of VPSLLDQ
abbrev pub rule_numbers : ℕ → List ℕ
rule_numbers k =
    at_kind k 0x0d (33 ∷ []) (at_kind k 0x0e (33 ∷ []) (at_kind k 0x11 (34 ∷ []) (at_kind k 0x12 (34 ∷ []) (at_kind k 0x18 (35 ∷ []) []))))

-- cells that are accepted, whatever they hold
abbrev pub AcceptedCells : Env → Type 0
AcceptedCells env = (values : List ℕ) × (check_cells env.addresses env.tags values ≡ accepted)

-- ---- the claims
pub record Telling : Type 0 where
  -- every operand in an instruction's record is judged once: its sources as they stand there, its destinations from the last to the first
  pub judged : (env : Env) (i : Instruction) (s : Config)
      → (layout i).operands ≡ reverse (map (λ w. w.0) (act env i s).words) ++ (act env i s).sources
  -- no other check of an instruction has 31, 32 or 36
  pub numbers : (env : Env) (i : Instruction) (s : Config) → map (λ c. c.1) (act env i s).rules ≡ rule_numbers (layout i).kind
  -- an instruction that faults fails with that number where it stands, and has written nothing
  pub faults : (env : Env) (i : Instruction) (p q n : ℕ) (s t : Config) → run_ins env p i s ≡ ends (fault n q) t
      → (q ≡ p) × (t ≡ s) × Fails env i s n
  -- and one that fails faults
  pub fails : (env : Env) → AcceptedCells env → (i : Instruction) (p n : ℕ) (s : Config) → Fails env i s n → run_ins env p i s ≡ ends (fault n p) s
  -- of a comparison the first operand that cannot be read decides; where both can be read, it is done
  pub either : (env : Env) (c : Ocmp) (s : Config)
      → AllRead env s (ocmp_layout c).operands ⊎ ((n : ℕ) × FirstUnread env s (ocmp_layout c).operands n)
  pub compare_fails : (env : Env) → AcceptedCells env → (c : Ocmp) (q n : ℕ) (s : Config)
      → FirstUnread env s (ocmp_layout c).operands n → run_ocmp env q c s ≡ ends (fault n q) s
  pub compares : (env : Env) (c : Ocmp) (q : ℕ) (s : Config) → AllRead env s (ocmp_layout c).operands
      → run_ocmp env q c s ≡ ends done (with_flags env.fill s)
  -- a run that faults: what stands at the place fails so in the state that is handed back
  pub told : (code : List ℕ) (env : Env) (fuel : ℕ) (limit : Option ℕ) (p n : ℕ) (s t : Config) → (run_of code env fuel limit s).end ≡ ends (fault n p) t
      → (c : Code) × (next : ℕ) × (parse code ≡ got c next) × FailsAt env c p t n
  -- out of range there is no cell
  pub out_no_cell : (env : Env) → AcceptedCells env → (m : Maddr) (s : Config) → OutOfRange (eval_maddr m s.regs) → cell_of env m s ≡ none
