-- An instruction that is done has made its stores and no other; one that is not done has left all as it was. Runs are made of these.
use mathlib.Core.Path.{◌≡◌, refl, sym, ◌∙◌, ap, subst}
use mathlib.Core.Bool.{Bool, true, false, cond}
use mathlib.Core.List.{List, [], ◌∷◌, ◌++◌, append_assoc}
use mathlib.Core.Option.{Option, none, some}
use Prim.Native.Nat.{ℕ, zero, suc}
use native.Mathlib.Omega.{arith}
use lib.ListN.{set}
use Rattle.machine.specs.Registers.{set_reg, set_xmm}
use Rattle.machine.specs.Cells.{set_cell}
use Rattle.machine.specs.declared.reg.Reg.{Reg}
use Rattle.machine.specs.declared.Operand.{Operand}
use Rattle.machine.specs.declared.Operand.TheVariants.{OConst, OReg, OMem}
use Rattle.words.specs.Words.{Four}
use Rattle.code.specs.declared.tree.Instruction.{Instruction}
use Rattle.code.specs.declared.tree.Ocmp.{Ocmp}
use Rattle.code.specs.Layout.{layout, ocmp_layout}
use Rattle.code.specs.Tree.{Code, Ins, Block, IfElse, While, Codes, ⟨⟩, ◌∷ᶜ◌}
use Rattle.eval.specs.Config.{Env, Config, with_regs, with_xmms, with_flags, End, ends, Outcome, done, fault, stopped, spent, refused, check}
use Rattle.eval.specs.Instructions.{cell_of, update_operand, readable, ruled, set_regs, set_xmms, written, act, run_ins, valid_ocmp, ocmp_number, eval_ocmp}
use Rattle.eval.specs.Watch.{watched}
use Rattle.eval.specs.Counted.{Counted, Ended, ended, Part, continue, used_up, count, step}
use Rattle.eval.specs.Running.{run_ocmp, step_ins, step_ocmp, decide, rounds, run_code, run_codes}
use Rattle.stores.specs.Stores.{Store, with_stores, to_cell, store, stores_to, stores, stores_of, Completed, if_done, Completes, way, completed, completed_all, completed_rounds}

pub make_append : (a b : List Store) (vs : List ℕ) → with_stores (a ++ b) vs ≡ with_stores b (with_stores a vs)
unfolding with_stores
make_append [] b vs = refl
make_append (w ∷ a) b vs = make_append a b (set vs w.index w.value)

-- no run of a code is refused
abbrev pub NotRefused : Outcome → Type 0
NotRefused done = Unit {0}
NotRefused (fault n p) = Unit {0}
NotRefused (stopped n p) = Unit {0}
NotRefused (spent p) = Unit {0}
NotRefused (refused n p) = ⊥

-- an end that is done has made the stores ws from s on, and any other is s
pub record Made (ws : List Store) (s : Config) (e : End) : Type 0 where
  pub judged : NotRefused e.how
  pub all : e.how ≡ done → e.config.values ≡ with_stores ws s.values
  pub nothing : (e.how ≡ done → ⊥) → e.config ≡ s

made_done : (ws : List Store) (s t : Config) → t.values ≡ with_stores ws s.values → Made ws s (ends done t)
made_done ws s t h = record { judged = tt; all = λ e. h; nothing = λ f. absurd (f refl) }

made_check : {ws : List Store} {s : Config} {k : End} (b : Bool) (n p : ℕ) → Made ws s k → Made ws s (check b n p s k)
unfolding check
made_check true n p h = h
made_check false n p h = record { judged = tt; all = λ e. absurd (let z : ◌≡◌ {A = ℕ} 0 1 = cc in omega arith); nothing = λ f. refl }

module _ (env : Env) where
  stored : (o : Operand) (v : ℕ) (s : Config) → (update_operand env o v s).values ≡ with_stores (store env o v s) s.values
  unfolding update_operand store to_cell with_stores
  stored (OConst n) v s = refl
  stored (OReg r) v s = refl
  stored (OMem m) v s = go (cell_of env m s)
    where
      go : (k : Option ℕ) → set_cell s.values k v ≡ with_stores (to_cell k v) s.values
      go none = refl
      go (some i) = refl

  -- the checks of what is read
  made_readable : (p : ℕ) (os : List Operand) {ws : List Store} {s : Config} {k : End} → Made ws s k → Made ws s (readable env p os s k)
  made_readable p [] h = h
  made_readable p (o ∷ os) h = made_check _ _ p (made_readable p os h)

  made_ruled : (p : ℕ) (cs : List (Bool × ℕ)) {ws : List Store} {s : Config} {k : End} → Made ws s k → Made ws s (ruled p cs s k)
  made_ruled p [] h = h
  made_ruled p (c ∷ cs) h = made_check c.0 c.1 p (made_ruled p cs h)

  -- the writes from t on, behind the stores a
  made_written :
      (p : ℕ) (ws : List (Operand × ℕ)) (s t : Config) (f : Config → Config) → ((u : Config) → (f u).values ≡ u.values) →
      (a : List Store) → t.values ≡ with_stores a s.values →
      Made (a ++ stores_to env ws t) s (written env p ws s (λ u. ends done (f u)) t)
  unfolding stores_to with_stores
  made_written p [] s t f keeps a h = made_done _ s _ (keeps t ∙ h ∙ sym (make_append a [] s.values))
  made_written p (w ∷ ws) s t f keeps a h =
      let next = store env w.0 w.1 t in
      let u = update_operand env w.0 w.1 t in
      let so_far = stored w.0 w.1 t ∙ ap (with_stores next) h ∙ sym (make_append a next s.values) in
      made_check _ _ p
      (subst (λ l. Made l s (written env p ws s (λ u. ends done (f u)) u)) (append_assoc a next (stores_to env ws u))
      (made_written p ws s u f keeps (a ++ next) so_far))

  -- registers, xmm and flags are no cells
  regs_keep : (ws : List (Reg × ℕ)) (t : Config) → (set_regs ws t).values ≡ t.values
  regs_keep [] t = refl
  regs_keep (w ∷ ws) t = regs_keep ws (with_regs (set_reg t.regs w.0 w.1) t)

  xmms_keep : (ws : List (ℕ × Four ℕ)) (t : Config) → (set_xmms ws t).values ≡ t.values
  xmms_keep [] t = refl
  xmms_keep (w ∷ ws) t = xmms_keep ws (with_xmms (set_xmm t.xmms w.0 w.1) t)

  pub made_ins : (p : ℕ) (i : Instruction) (s : Config) → Made (stores env i s) s (run_ins env p i s)
  unfolding run_ins stores with_stores
  made_ins p i s =
      let a = act env i s in
      made_readable p a.sources (made_ruled p a.rules
      (made_written p a.words s s (λ t. with_flags a.flags (set_xmms a.quads (set_regs a.regs t)))
      (λ t. xmms_keep a.quads (set_regs a.regs t) ∙ regs_keep a.regs t) [] refl))

  stores_of_append : (a b : List Completed) → stores_of env (a ++ b) ≡ stores_of env a ++ stores_of env b
  unfolding stores_of
  stores_of_append [] b = refl
  stores_of_append (d ∷ a) b =
      ap (λ l. stores env d.instruction d.before ++ l) (stores_of_append a b)
      ∙ sym (append_assoc (stores env d.instruction d.before) (stores_of env a) (stores_of env b))

  make_both : (a b : List Completed) (vs : List ℕ) → with_stores (stores_of env (a ++ b)) vs ≡ with_stores (stores_of env b) (with_stores (stores_of env a) vs)
  make_both a b vs = rw (stores_of_append a b) (make_append (stores_of env a) (stores_of env b) vs)

  -- a part of a run that is not refused, and whose end values are the values vs with the stores of the instructions l
  pub record Traced (vs : List ℕ) (l : List Completed) (e : Ended) : Type 0 where
    pub judged : NotRefused e.end.how
    pub made : e.end.config.values ≡ with_stores (stores_of env l) vs

  -- each run of f completes what l says
  abbrev AllTraced : Completes → Part → Type 0
  AllTraced l f = (t : Config) (k : Counted) → Traced t.values (l t k) (f t k)

  traced_one : (d : Completed) (vs : List ℕ) (o : Outcome) (t : Config) (k : Counted) → NotRefused o
      → (o ≡ done → t.values ≡ with_stores (stores env d.instruction d.before) vs) → ((o ≡ done → ⊥) → t.values ≡ vs)
      → Traced vs (if_done o (d ∷ [])) (ended o t k)
  unfolding if_done stores_of with_stores
  traced_one d vs done t k j f g =
      record { judged = tt; made = f refl ∙ sym (make_append (stores env d.instruction d.before) [] vs) }
  traced_one d vs (fault n p) t k j f g = record { judged = tt; made = g (λ e. let z : ◌≡◌ {A = ℕ} 0 1 = cc in omega arith) }
  traced_one d vs (stopped n p) t k j f g = record { judged = tt; made = g (λ e. let z : ◌≡◌ {A = ℕ} 0 1 = cc in omega arith) }
  traced_one d vs (spent p) t k j f g = record { judged = tt; made = g (λ e. let z : ◌≡◌ {A = ℕ} 0 1 = cc in omega arith) }
  traced_one d vs (refused n p) t k j f g = absurd j

  traced_if_done : (vs : List ℕ) (l : List Completed) (o : Outcome) (t : Config) (k : Counted) (f : Part) (m : Completes)
      → Traced vs l (ended o t k) → Traced t.values (m t k) (f t k) → Traced vs (l ++ if_done o (m t k)) (continue o t k f)
  unfolding if_done continue stores_of with_stores
  traced_if_done vs l done t k f m h g =
      record { judged = g.judged; made = g.made ∙ ap (with_stores (stores_of env (m t k))) h.made ∙ sym (make_both l (m t k) vs) }
  traced_if_done vs l (fault n p) t k f m h g = record { judged = tt; made = h.made ∙ sym (make_both l [] vs) }
  traced_if_done vs l (stopped n p) t k f m h g = record { judged = tt; made = h.made ∙ sym (make_both l [] vs) }
  traced_if_done vs l (spent p) t k f m h g = record { judged = tt; made = h.made ∙ sym (make_both l [] vs) }
  traced_if_done vs l (refused n p) t k f m h g = absurd h.judged

  traced_cond : (b : Bool) (l m : Completes) (f g : Part) → AllTraced l f → AllTraced m g → AllTraced (cond b l m) (cond b f g)
  traced_cond true l m f g F G = F
  traced_cond false l m f g F G = G

  module _ (limit : Option ℕ) where
    traced_ins : (p : ℕ) (i : Instruction) (s : Config) (k : Counted)
        → Traced s.values (completed env limit (Ins p i) 0 s k) (step_ins env limit p i s k)
    unfolding step completed if_done stores_of with_stores
    traced_ins p i s k = go (used_up limit k)
      where
        tried : Ended
        tried = record { end = run_ins env p i s; counted = count (run_ins env p i s).how (watched env.rule (layout i).kind p) k }

        d : Completed
        d = record { instruction = i; before = s }

        go : (b : Bool) → let e = cond b (ended (stopped 37 p) s k) tried in Traced s.values (if_done e.end.how (d ∷ [])) e
        go true = record { judged = tt; made = refl }
        go false =
            let e = run_ins env p i s in
            let m = made_ins p i s in
            traced_one d s.values e.how e.config tried.counted m.judged m.all (λ n. ap (λ (t : Config). t.values) (m.nothing n))

    -- a comparison completes no instruction
    traced_ocmp : (q : ℕ) (c : Ocmp) (s : Config) (k : Counted) → Traced s.values [] (step_ocmp env limit q c s k)
    unfolding step run_ocmp check stores_of with_stores
    traced_ocmp q c s k = go (used_up limit k) (valid_ocmp env c s)
      where
        passed : End
        passed = ends done (with_flags env.fill s)

        go : (a b : Bool)
            → let e = check b (ocmp_number env c s) q s passed in
            Traced s.values []
            (cond a (ended (stopped 37 q) s k) (record { end = e; counted = count e.how (watched env.rule (ocmp_layout c).kind q) k }))
        go true b = record { judged = tt; made = refl }
        go false true = record { judged = tt; made = refl }
        go false false = record { judged = tt; made = refl }

    traced_way : (q : ℕ) (c : Ocmp) (f g : Part) (l m : Completes) → AllTraced l f → AllTraced m g
        → AllTraced (way env limit q c l m) (decide env limit q c f g)
    unfolding decide way
    traced_way q c f g l m F G s k =
        let e = step_ocmp env limit q c s k in
        let b = eval_ocmp env c s in
        traced_if_done s.values [] e.end.how e.end.config e.counted (cond b f g) (cond b l m) (traced_ocmp q c s k)
        (traced_cond b l m f g F G e.end.config e.counted)

    traced_rounds : (body : ℕ → Part) (inside : ℕ → Completes) (p q : ℕ) (c : Ocmp) → ((f : ℕ) → AllTraced (inside f) (body f))
        → (f : ℕ) → AllTraced (completed_rounds env limit body inside q c f) (rounds env limit body p q c f)
    unfolding rounds completed_rounds stores_of with_stores
    traced_rounds body inside p q c h zero s k = record { judged = tt; made = refl }
    traced_rounds body inside p q c h (suc f) s k =
        traced_way q c _ _ _ _
        (λ t l.
        let e = body f t l in
        traced_if_done t.values (inside f t l) e.end.how e.end.config e.counted (rounds env limit body p q c f)
        (completed_rounds env limit body inside q c f) (h f t l) (traced_rounds body inside p q c h f e.end.config e.counted))
        (λ t l. record { judged = tt; made = refl }) s k

    mutual
      unfolding run_code run_codes completed completed_all stores_of with_stores

      pub traced : (c : Code) (f : ℕ) → AllTraced (completed env limit c f) (run_code env limit c f)
      traced (Ins p i) f s k = traced_ins p i s k
      traced (Block p cs) f s k = traced_all cs f s k
      traced (IfElse p q c a b) f s k = traced_way q c _ _ _ _ (traced a f) (traced b f) s k
      traced (While p q c b) f s k = traced_rounds (run_code env limit b) (completed env limit b) p q c (traced b) f s k

      traced_all : (cs : Codes) (f : ℕ) → AllTraced (completed_all env limit cs f) (run_codes env limit cs f)
      traced_all ⟨⟩ f s k = record { judged = tt; made = refl }
      traced_all (c ∷ᶜ cs) f s k =
          let e = run_code env limit c f s k in
          traced_if_done s.values (completed env limit c f s k) e.end.how e.end.config e.counted (run_codes env limit cs f)
          (completed_all env limit cs f) (traced c f s k) (traced_all cs f e.end.config e.counted)
