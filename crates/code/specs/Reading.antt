-- What reading and writing are to each other, as statements: reading gives the one tree that the bytes spell within the limits, and every such tree;
-- the bytes of a tree are read back to it.
use Rattle.std.specs.Prelude.{ℕ, ◌≤◌, ◌≡◌, List, length}
use Rattle.machine.specs.Cells.{accepted, refused}
use Rattle.code.specs.Tree.{Code}
use Rattle.code.specs.Reader.{got, trouble, parse, check_code}
use Rattle.code.specs.Spells.{Spells, Nests, Parsed}
use Rattle.code.specs.WellFormed.{Bytes, WfCode}
use Rattle.code.specs.Writer.{bytes_of_code, PlacedAt, place_code}

-- reading these bytes
pub record Reading (bs : List ℕ) : Type 0 where
  -- what is read is spelled, within the limits
  pub sound : (c : Code) (e : ℕ) → parse bs ≡ got c e → Parsed bs c × (e ≡ length bs)
  -- what is spelled within the limits is read
  pub complete : (c : Code) → Parsed bs c → parse bs ≡ got c (length bs)
  -- codes that are spelled from one place on are equal, and so are their ends
  pub unique : (c c' : Code) (at e e' : ℕ) → Spells c bs at e → Spells c' bs at e' → (c ≡ c') × (e ≡ e')
  -- checking accepts where there is a tree to read
  pub accepts : check_code bs ≡ accepted → (c : Code) × (parse bs ≡ got c (length bs))
  -- refuses with the number and place of the first trouble
  pub refuses : (n p : ℕ) → check_code bs ≡ refused n p → parse bs ≡ trouble n p
  -- and refuses nothing that is spelled within the limits
  pub refuses_none : (c : Code) → Parsed bs c → check_code bs ≡ accepted
  -- every tree that is read is well formed
  pub well_formed : Bytes bs → (c : Code) (e : ℕ) → parse bs ≡ got c e → WfCode c

-- reading what was written
pub record Writing (c : Code) : Type 0 where
  -- a tree whose places are where its records land is read back as it is
  pub read_back :
      WfCode c → PlacedAt 0 c → Nests c 32 → length (bytes_of_code c) ≤ 16384 → parse (bytes_of_code c) ≡ got c (length (bytes_of_code c))
  -- and any other with those places
  pub read_back_placed :
      WfCode c → Nests c 32 → length (bytes_of_code c) ≤ 16384 →
      parse (bytes_of_code c) ≡ got (place_code 0 c) (length (bytes_of_code c))
