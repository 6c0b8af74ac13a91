-- The claims of request 2026-07, in one record: `Watching`. The watch, and the table of what opens and closes, are defined in
-- crates/eval/specs/Watch.antt. That an answer has the definition's watch is the contract of `run`.
use Rattle.std.specs.Prelude.{ℕ, ◌≡◌, Bool, true, false, List}
use Rattle.std.proofs.Math.Option.{Option}
use Rattle.words.specs.Flags.{cf, overflow}
use Rattle.machine.specs.Cells.{accepted, check_cells}
use Rattle.machine.specs.declared.Operand.{Operand}
use Rattle.code.specs.declared.tree.Instruction.{Instruction}
use Rattle.code.specs.declared.tree.Instruction.TheVariants.{AddCarry64, Adcx64, Adox64}
use Rattle.code.specs.declared.tree.Ocmp.{Ocmp}
use Rattle.code.specs.Layout.{layout, ocmp_layout}
use Rattle.code.specs.Tree.{Code}
use Rattle.code.specs.Reader.{got, parse}
use Rattle.eval.specs.declared.answer.Evaluation.{Evaluation}
use Rattle.eval.specs.declared.answer.Watch.{Watch}
use Rattle.eval.specs.FlagRule.{Touch, keeps, opens, closes, flag_rule}
use Rattle.eval.specs.Config.{Env, Config, with_flags, End, done, refused}
use Rattle.eval.specs.Watch.{Unmarked, Marked, watch, nothing_open, Touches, touched, reads_open, watched}
use Rattle.eval.specs.Counted.{Counted, counted, Ended}
use Rattle.eval.specs.Instructions.{run_ins}
use Rattle.eval.specs.Running.{run_ocmp, step_ins, step_ocmp, run_code, run_of}
use Rattle.eval.specs.Promises.{environment}

-- what a touch says of a flag, where the flags f become h under a fill word, and g become j under another: each is as it was; each is its fill word's;
-- they are the same
abbrev pub Says : (ℕ → Bool) → (fill other f g : ℕ) → Touch → (h j : ℕ) → Type 0
Says flag fill other f g keeps h j = (flag h ≡ flag f) × (flag j ≡ flag g)
Says flag fill other f g opens h j = (flag h ≡ flag fill) × (flag j ≡ flag other)
Says flag fill other f g closes h j = flag h ≡ flag j

-- what an instruction of kind k reads is the same in the flags f and g
pub record ReadsSame (k f g : ℕ) : Type 0 where
  pub carry : reads_open k (watch true false Unmarked) ≡ true → cf f ≡ cf g
  pub over : reads_open k (watch false true Unmarked) ≡ true → overflow f ≡ overflow g

-- a row of the table is right of an instruction or a comparison that ends as `one` under a fill word from flags f, and as `two` under another from flags g:
-- the second completes too, and what the row says of carry and of overflow holds
pub record Right (row : Touches) (fill other f g : ℕ) (one two : End) : Type 0 where
  pub completes : two.how ≡ done
  pub carry : Says cf fill other f g row.carry one.config.flags two.config.flags
  pub over : Says overflow fill other f g row.overflow one.config.flags two.config.flags

-- a second end is the first, but for open flags, and for the bits of the flags that nothing reads: answer, number and place, registers, xmm, cells, steps
-- and watch are the same, and so are carry and overflow where they are not open
pub record SameButOpen (first second : Ended) : Type 0 where
  pub how : second.end.how ≡ first.end.how
  pub regs : second.end.config.regs ≡ first.end.config.regs
  pub xmms : second.end.config.xmms ≡ first.end.config.xmms
  pub values : second.end.config.values ≡ first.end.config.values
  pub counted : second.counted ≡ first.counted
  pub carry : first.counted.watch.carry ≡ false → cf second.end.config.flags ≡ cf first.end.config.flags
  pub over : first.counted.watch.overflow ≡ false → overflow second.end.config.flags ≡ overflow first.end.config.flags

module _ (e : Evaluation) (addresses tags : List ℕ) where
  -- the environment of an evaluation under a fill word
  abbrev under : ℕ → Env
  under fill = environment addresses tags fill (flag_rule e)

  -- ---- the claims, of one evaluation
  pub record WatchingBy : Type 0 where
    -- the table is right, of every instruction and every comparison, from any two flags in which what it reads is the same
    pub right : (i : Instruction) (p : ℕ) (s : Config) (fill other g : ℕ) → (run_ins (under fill) p i s).how ≡ done → ReadsSame (layout i).kind s.flags g
        → Right (touched (flag_rule e) (layout i).kind) fill other s.flags g (run_ins (under fill) p i s) (run_ins (under other) p i (with_flags g s))
    pub right_compared : (c : Ocmp) (q : ℕ) (s : Config) (fill other g : ℕ) → (run_ocmp (under fill) q c s).how ≡ done
        → Right (touched (flag_rule e) (ocmp_layout c).kind) fill other s.flags g (run_ocmp (under fill) q c s)
        (run_ocmp (under other) q c (with_flags g s))
    -- a run with an unmarked watch is the same under every other fill word, however it ends
    pub unmarked : (code : List ℕ) (fuel : ℕ) (limit : Option ℕ) (s : Config) (fill other : ℕ)
        → (run_of code (under fill) fuel limit s).counted.watch.mark ≡ Unmarked
        → SameButOpen (run_of code (under fill) fuel limit s) (run_of code (under other) fuel limit s)
    -- a mark stays at the place that it has
    pub stays : (c : Code) (fuel : ℕ) (limit : Option ℕ) (s : Config) (k : Counted) (fill p : ℕ) → k.watch.mark ≡ Marked p
        → (run_code (under fill) limit c fuel s k).counted.watch.mark ≡ Marked p
    -- what is open at the end is the fill word's, of every run, marked or not
    pub carry_open : (code : List ℕ) (fuel : ℕ) (limit : Option ℕ) (s : Config) (fill : ℕ)
        → let r = run_of code (under fill) fuel limit s in r.counted.watch.carry ≡ true → cf r.end.config.flags ≡ cf fill
    pub overflow_open : (code : List ℕ) (fuel : ℕ) (limit : Option ℕ) (s : Config) (fill : ℕ)
        → let r = run_of code (under fill) fuel limit s in r.counted.watch.overflow ≡ true → overflow r.end.config.flags ≡ overflow fill

-- ---- the claims
pub record Watching : Type 0 where
  -- by both evaluations
  pub each : (e : Evaluation) (addresses tags : List ℕ) → WatchingBy e addresses tags
  -- an instruction, or a comparison, that is done is watched, and what is not done leaves the watch as it was
  pub completed : (env : Env) (limit : Option ℕ) (p : ℕ) (i : Instruction) (s : Config) (k : Counted) → (step_ins env limit p i s k).end.how ≡ done
      → (step_ins env limit p i s k).counted.watch ≡ watched env.rule (layout i).kind p k.watch
  pub compared : (env : Env) (limit : Option ℕ) (q : ℕ) (c : Ocmp) (s : Config) (k : Counted) → (step_ocmp env limit q c s k).end.how ≡ done
      → (step_ocmp env limit q c s k).counted.watch ≡ watched env.rule (ocmp_layout c).kind q k.watch
  pub not_completed : (env : Env) (limit : Option ℕ) (p : ℕ) (i : Instruction) (s : Config) (k : Counted)
      → ((step_ins env limit p i s k).end.how ≡ done → ⊥) → (step_ins env limit p i s k).counted.watch ≡ k.watch
  pub not_compared : (env : Env) (limit : Option ℕ) (q : ℕ) (c : Ocmp) (s : Config) (k : Counted)
      → ((step_ocmp env limit q c s k).end.how ≡ done → ⊥) → (step_ocmp env limit q c s k).counted.watch ≡ k.watch
  -- AddCarry64 and Adcx64 read carry, Adox64 overflow, and no other instruction and no comparison reads one
  pub add_carry64 : (dst src : Operand) (w : Watch) → reads_open (layout (AddCarry64 dst src)).kind w ≡ w.carry
  pub adcx64 : (dst src : Operand) (w : Watch) → reads_open (layout (Adcx64 dst src)).kind w ≡ w.carry
  pub adox64 : (dst src : Operand) (w : Watch) → reads_open (layout (Adox64 dst src)).kind w ≡ w.overflow
  pub no_other : (i : Instruction) → ((layout i).kind ≡ 0x04 → ⊥) → ((layout i).kind ≡ 0x05 → ⊥) → ((layout i).kind ≡ 0x06 → ⊥)
      → (w : Watch) → reads_open (layout i).kind w ≡ false
  pub no_comparison : (c : Ocmp) (w : Watch) → reads_open (ocmp_layout c).kind w ≡ false
  -- the first that reads an open one makes the mark, with its place; what reads none makes none, and a mark that is there stays
  pub marks : (env : Env) (k p : ℕ) (w : Watch) → w.mark ≡ Unmarked → reads_open k w ≡ true → (watched env.rule k p w).mark ≡ Marked p
  pub marks_none : (env : Env) (k p : ℕ) (w : Watch) → reads_open k w ≡ false → (watched env.rule k p w).mark ≡ w.mark
  pub marks_once : (env : Env) (k p q : ℕ) (w : Watch) → w.mark ≡ Marked q → (watched env.rule k p w).mark ≡ Marked q
  -- a run begins with no step, neither flag open, and no mark
  pub begins : (code : List ℕ) (env : Env) (fuel : ℕ) (limit : Option ℕ) (s : Config) (c : Code) (next : ℕ) → parse code ≡ got c next
      → check_cells env.addresses env.tags s.values ≡ accepted
      → run_of code env fuel limit s ≡ run_code env limit c fuel s (counted 0 (watch false false Unmarked))
  -- and one that is refused ends so
  pub refused_unmarked : (code : List ℕ) (env : Env) (fuel : ℕ) (limit : Option ℕ) (s : Config) (n p : ℕ)
      → (run_of code env fuel limit s).end.how ≡ refused n p → (run_of code env fuel limit s).counted.watch ≡ nothing_open
