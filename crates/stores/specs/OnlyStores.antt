-- What a run leaves in the cells: the values as lent, with the stores of the instructions that it completed.
use Rattle.std.specs.Prelude.{ℕ, ◌≡◌, List, [], ◌∷◌, length, get_or}
use Rattle.std.proofs.Math.Option.{Option}
use Rattle.code.specs.Tree.{Code}
use Rattle.eval.specs.Config.{Env, Config}
use Rattle.eval.specs.Counted.{nothing_counted}
use Rattle.stores.specs.Stores.{Store, with_stores, stores_of, completed}

-- each store is to a 64-bit cell
abbrev pub To64 : List ℕ → List Store → Type 0
To64 ts [] = Unit {0}
To64 ts (w ∷ ws) = (get_or ts w.index 0 ≡ 64) × To64 ts ws

-- the values at the end of a run of code c from s, whatever its outcome
pub record OnlyStores (env : Env) (limit : Option ℕ) (c : Code) (fuel : ℕ) (s : Config) (values : List ℕ) : Type 0 where
  -- they are the values as lent with the stores of the completed instructions, in order, and nothing else
  pub made : values ≡ with_stores (stores_of env (completed env limit c fuel s nothing_counted)) s.values
  -- each store is to a 64-bit cell, so the value of a cell of another tag never changes
  pub to_64 : To64 env.tags (stores_of env (completed env limit c fuel s nothing_counted))
  pub others : (i : ℕ) → (get_or env.tags i 0 ≡ 64 → ⊥) → get_or values i 0 ≡ get_or s.values i 0
  pub as_many : length values ≡ length s.values
