-- The claims of request 2026-08, in one record: `Scaling`. That the three demands read over the smaller set needs no claim of its own: they are of the
-- code that is accepted, and no scale is named in them. The job program prints what a run says. The four scales are `is_scale`
-- (crates/machine/specs/Operands.antt).
use Rattle.std.specs.Prelude.{ℕ, suc, ◌+◌, ◌≤◌, ◌<◌, ◌≡◌, true, List, length}
use Rattle.std.proofs.Math.Option.{Option}
use Rattle.machine.specs.Cells.{accepted, refused as check_refused}
use Rattle.machine.specs.Operands.{is_scale}
use Rattle.code.specs.Tree.{Code}
use Rattle.code.specs.Records.{is_operand, byte_at, signed_at}
use Rattle.code.specs.Reader.{Read, got, trouble, read_record, parse, check_code}
use Rattle.code.specs.Spells.{Nests}
use Rattle.code.specs.WellFormed.{Bytes, WfCode}
use Rattle.code.specs.Writer.{bytes_of_code}
use Rattle.builder.specs.declared.build.Build.{Build}
use Rattle.builder.specs.Calls.{Call, bytes_of_call, call_trouble, CallTyped}
use Rattle.built.specs.Claims.{Exactly, Judged}
use Rattle.eval.specs.Counted.{nothing_counted, ended}
use Rattle.eval.specs.Config.{Env, Config, refused}
use Rattle.eval.specs.Running.{run_of}

-- ---- the record of an MIndex
module _ (bs : List ℕ) (at : ℕ) where
  -- its fields are right: the base
  abbrev pub BaseRight : Type 0
  BaseRight = byte_at bs (at + 1) ≤ 15

  -- the scale, of two bytes
  abbrev pub ScaleRight : Type 0
  ScaleRight = is_scale (signed_at 2 bs (at + 2)) ≡ true

  -- and the index
  abbrev pub IndexRight : Type 0
  IndexRight = byte_at bs (at + 4) ≤ 15

  module _ (e : ℕ) where
    -- what reading it gives, in a part that ends at e
    abbrev pub reads : Read (Unit {0})
    reads = read_record is_operand bs e at

    -- its body ends there at the latest
    abbrev pub Whole : Type 0
    Whole = at + 13 ≤ e

    -- each trouble exactly where its test fails and those before it pass
    pub record InOrder : Type 0 where
      pub cut_short : Exactly (reads ≡ trouble 3 at) (Whole → ⊥)
      pub base : Exactly (reads ≡ trouble 4 (at + 1)) (Whole × (BaseRight → ⊥))
      pub scale : Exactly (reads ≡ trouble 7 (at + 2)) (Whole × BaseRight × (ScaleRight → ⊥))
      pub index : Exactly (reads ≡ trouble 4 (at + 4)) (Whole × BaseRight × ScaleRight × (IndexRight → ⊥))
      pub none : Exactly (reads ≡ got tt (at + 13)) (Whole × BaseRight × ScaleRight × IndexRight)

-- at p stands a scale, the first field of its record that is wrong
pub record WrongScale (bs : List ℕ) (p : ℕ) : Type 0 where
  pub at : ℕ
  pub place : p ≡ at + 2
  pub kind : byte_at bs at ≡ 0x44
  pub inside : at + 13 ≤ length bs
  pub base_right : BaseRight bs at
  pub scale_wrong : ScaleRight bs at → ⊥

-- ---- the claims
pub record Scaling : Type 0 where
  -- in one record 3, then the base, the scale and the index
  pub in_order : (bs : List ℕ) (at e : ℕ) → byte_at bs at ≡ 0x44 → at < e → InOrder bs at e
  -- 7 is said of such a scale alone, at its first byte; which of them is the first, reading from the front says
  pub seven : (bs : List ℕ) (p : ℕ) → check_code bs ≡ check_refused 7 p → WrongScale bs p
  -- accepted code has no other scale: every tree that is read is well formed (`WfMaddr`)
  pub no_other : (bs : List ℕ) → Bytes bs → (c : Code) (e : ℕ) → parse bs ≡ got c e → WfCode c
  -- and no tree with these is left out
  pub none_lost : (c : Code) → WfCode c → Nests c 32 → length (bytes_of_code c) ≤ 16384 → check_code (bytes_of_code c) ≡ accepted
  -- a run refuses what checking refuses, and leaves all as it was
  pub not_run : (code : List ℕ) (env : Env) (fuel : ℕ) (limit : Option ℕ) (s : Config) (p : ℕ)
      → check_code code ≡ check_refused 7 p → run_of code env fuel limit s ≡ ended (refused 7 p) s nothing_counted
  -- the builder judges 4 and 7 straight after 51 (`is_4`, `is_7`)
  pub not_built : (c : Call) (b : Build) (buffer : List ℕ) → Judged c b buffer
  -- by the record's bytes: a call of the types is refused with the number with which checking refuses what it would add
  pub as_checked : (c : Call) → CallTyped c → (n : ℕ) → call_trouble c ≡ suc n → (p : ℕ) × (check_code (bytes_of_call c) ≡ check_refused (suc n) p)
