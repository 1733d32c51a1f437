-- What a run sheet says: a header, entries in order, and where the reading ended.
use Rattle.std.specs.Prelude.{ℕ, cond, ◌&&◌, List, [], Some, None, Option, nat_le}

-- kind: 0 tally, 1 capture; shelf: 0 flag shelf, 1 block shelf; N, K and C
pub record Header : Type 0 where
  pub kind : ℕ
  pub shelf : ℕ
  pub parties : ℕ
  pub links : ℕ
  pub channels : ℕ

-- one record of a sheet: a call of the hub
pub data Entry : Type 0 where
  amendment : (party channel word : ℕ) → Entry
  picture : (party : ℕ) (channels : List ℕ) → Entry
  turn : (party : ℕ) → Entry
  release : (party : ℕ) → Entry
  look : (party link : ℕ) → Entry

-- the part of the program whose rule was broken
pub data Layer : Type 0 where
  plan : Layer
  sheet : Layer
  runner : Layer

-- a refusal by its number, its layer, and the place of the failing field's first bit
pub record Fault : Type 0 where
  pub number : ℕ
  pub layer : Layer
  pub place : ℕ

-- the reader's fault: 11 to 13 are the plan's, all others the sheet's
abbrev pub fault_at : ℕ → ℕ → Fault
fault_at n k = record { number = n; layer = cond (nat_le 11 n && nat_le n 13) plan sheet; place = k }

-- what could be read of a sheet; without a fault it is the whole of it
pub record Contents : Type 0 where
  pub header : Option Header
  pub entries : List Entry
  pub fault : Option Fault

abbrev pub nothing_but : Fault → Contents
nothing_but f = record { header = None; entries = []; fault = Some f }

abbrev pub read_to : Header → List Entry → Option Fault → Contents
read_to h es f = record { header = Some h; entries = es; fault = f }
