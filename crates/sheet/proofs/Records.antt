-- Records: a picture's channels one by one, and what follows each code.
use Rattle.std.proofs.Common.{◌≡◌, ℕ, suc, ◌+◌, ◌-◌, ◌<◌, Bool, true, false, cond, List, [], ◌∷◌, ◌++◌, length, take, drop, set, Some, None, Option, refl, arith}
use Rattle.std.proofs.lemmas.List.{take_more_set}
use Rattle.sheet_rules.specs.Bits.{field_in}
use Rattle.sheet_rules.specs.Contents.{Entry, picture, fault_at}
use Rattle.sheet_rules.specs.Formats.{Format, gives, field, Read, got, fails, field_or, read_as, mapped, channels_format, picture_format, entry_format}
use Rattle.sheet.specs.Rest.{Rest, behind}

-- the reading of n channels with one still to come
one_more : (count i : ℕ) → i < count → count - i ≡ suc (count - (i + 1))
one_more count i h = omega arith

-- a channel more
pub channel_read : (count i : ℕ) (cs : List ℕ) (old new : Rest) (v : ℕ) → i < count → Some v ≡ field_in old.bits 7 → new ≡ behind 7 old
    → read_as (channels_format (count - (i + 1)) (cs ++ (v ∷ []))) new.bits new.place ≡ read_as (channels_format (count - i) cs) old.bits old.place
channel_read count i cs old new v h e m = rw (m, one_more count i h, ← e) refl

-- a turn of the loop that stores the channels
pub channel_stored : (count i : ℕ) → i < count → (channels : List ℕ) → i < length channels → (old new : Rest) (v : ℕ)
    → Some v ≡ field_in old.bits 7 → new ≡ behind 7 old
    → read_as (channels_format (count - (i + 1)) (take (i + 1) (set channels i v))) new.bits new.place ≡ read_as (channels_format (count - i) (take i channels)) old.bits old.place
channel_stored count i h channels l old new v e m = rw (take_more_set channels i v l) (channel_read count i (take i channels) old new v h e m)

-- what a format gives, taken further
abbrev pub map_read : {A B : Type 0} → (A → B) → Read A → Read B
map_read g (got a bits k) = got (g a) bits k
map_read g (fails e) = fails e

pub read_mapped : {A B : Type 0} (g : A → B) (f : Format A) (bits : List ℕ) (k : ℕ) → map_read g (read_as f bits k) ≡ read_as (mapped g f) bits k
read_mapped g (gives a) bits k = refl
read_mapped {A} {B} g (field w wrong n f) bits k = by_field (λ v. read_mapped g (f v) (drop w bits) (k + w)) (field_in bits w)
  where
    by_value : (v : ℕ) → map_read g (read_as (f v) (drop w bits) (k + w)) ≡ read_as (mapped g (f v)) (drop w bits) (k + w) → (b : Bool)
        → map_read g (cond b (fails (fault_at n k)) (read_as (f v) (drop w bits) (k + w))) ≡ cond b (fails (fault_at n k)) (read_as (mapped g (f v)) (drop w bits) (k + w))
    by_value v ih true = refl
    by_value v ih false = ih

    by_field : ((v : ℕ) → map_read g (read_as (f v) (drop w bits) (k + w)) ≡ read_as (mapped g (f v)) (drop w bits) (k + w)) → (o : Option ℕ)
        → map_read g (field_or o k (λ x. cond (wrong x) (fails (fault_at n k)) (read_as (f x) (drop w bits) (k + w))))
        ≡ field_or o k (λ x. cond (wrong x) (fails (fault_at n k)) (read_as (mapped g (f x)) (drop w bits) (k + w)))
    by_field ih None = refl
    by_field ih (Some v) = by_value v (ih v) (wrong v)

-- the fields before a picture's channels: the party was read from a, and the count from b
pub picture_read : (a b d : Rest) (p count : ℕ) → Some p ≡ field_in a.bits 5 → b ≡ behind 5 a → Some count ≡ field_in b.bits 3 → d ≡ behind 3 b
    → (r : Read (List ℕ)) → r ≡ read_as (channels_format count []) d.bits d.place → map_read (picture p) r ≡ read_as picture_format a.bits a.place
picture_read a b d p count e m f n r q =
    let f' : Some count ≡ field_in (drop 5 a.bits) 3 = rw m at f in
    rw (q, n, m, ← e, ← f') (read_mapped (picture p) (channels_format count []) (drop 3 (drop 5 a.bits)) (a.place + 5 + 3))

-- a picture behind its code
pub picture_entry : (a b : Rest) (code : ℕ) → Some code ≡ field_in a.bits 3 → b ≡ behind 3 a → code ≡ 2
    → (r : Read Entry) → r ≡ read_as picture_format b.bits b.place → map_read Some r ≡ read_as entry_format a.bits a.place
picture_entry a b code e m two r q =
    let e' : Some 2 ≡ field_in a.bits 3 = rw two at e in
    rw (q, m, ← e') (read_mapped Some picture_format (drop 3 a.bits) (a.place + 3))
