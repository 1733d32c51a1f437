-- What a shelf means, and what its operations do to that meaning: ideal load-linked (take), store-conditional (put)
-- and validate (check).
use Rattle.std.specs.Prelude.{◌≡◌, ℕ, ◌+◌, ◌*◌, ◌<◌, ◌≤◌, Bool, true, false, cond, ◌≢◌, List, map, length, replicate, ◌==◌, slice_index_or, slice_set}
use Rattle.plan.specs.Plans.{width}
use Rattle.plan.specs.declared.check.Plan.{Plan}
use Rattle.shelf.specs.declared.answer.Answer.{Answer}
use Rattle.shelf.specs.declared.answer.Answer.TheVariants.{Run, Taken, Stored, Missed, Live, Broken}

-- link i of party p, numbered among the links of all parties
abbrev pub flat : Plan → ℕ → ℕ → ℕ
flat pl p i = p * pl.links + i

-- the links of a party
pub record Own (pl : Plan) (p j : ℕ) : Type 0 where
  pub from : p * pl.links ≤ j
  pub to : j < p * pl.links + pl.links

-- a link is empty, or it has a channel and a reading and is live (true) or broken
pub data Link (R : Type 0) : Type 0 where
  vacant : Link R
  holds : (channel : ℕ) (reading : R) (live : Bool) → Link R

-- an operation: take (link, channel), put (link, reading), check (link)
pub data Operation (R : Type 0) : Type 0 where
  take : ℕ → ℕ → Operation R
  put : ℕ → R → Operation R
  check : ℕ → Operation R

-- a party is idle, or its operation waits, or is in force with its answer
pub data Activity (R : Type 0) : Type 0 where
  idle : Activity R
  waits : Operation R → Activity R
  in_force : Answer → Activity R

-- a reading for each channel, a link for each party and link, an activity for each party
pub record Meaning (R : Type 0) : Type 0 where
  pub readings : List R
  pub links : List (Link R)
  pub activities : List (Activity R)

abbrev pub link_at : {R : Type 0} → Meaning R → ℕ → Link R
link_at m j = slice_index_or m.links j vacant

abbrev pub activity_of : {R : Type 0} → Meaning R → ℕ → Activity R
activity_of m p = slice_index_or m.activities p idle

-- the meaning with another activity of party p; with another link j
abbrev pub does : {R : Type 0} → Meaning R → ℕ → Activity R → Meaning R
does m p x = record { readings = m.readings; links = m.links; activities = slice_set m.activities p x }

abbrev pub linking : {R : Type 0} → Meaning R → ℕ → Link R → Meaning R
linking m j l = record { readings = m.readings; links = slice_set m.links j l; activities = m.activities }

abbrev pub break_on : {R : Type 0} → ℕ → Link R → Link R
break_on c vacant = vacant
break_on c (holds e x t) = holds e x (cond (e == c) false t)

-- ** an operation comes into force

-- a put on a live link stores and breaks every link on the channel; on a broken one it alters nothing
abbrev pub put_on : {R : Type 0} → Meaning R → ℕ → R → Link R → Meaning R
put_on m p r vacant = m
put_on m p r (holds c x true) = record { readings = slice_set m.readings c r; links = map (break_on c) m.links; activities = slice_set m.activities p (in_force Stored) }
put_on m p r (holds c x false) = does m p (in_force Missed)

abbrev pub verdict : {R : Type 0} → Link R → Answer
verdict vacant = Broken
verdict (holds c x true) = Live
verdict (holds c x false) = Broken

-- d stands for the reading of a channel that is not there
abbrev pub brought : {R : Type 0} → R → Meaning R → ℕ → Operation R → Meaning R
brought d m p (take j c) = does (linking m j (holds c (slice_index_or m.readings c d) true)) p (in_force Taken)
brought d m p (put j r) = put_on m p r (link_at m j)
brought d m p (check j) = does m p (in_force (verdict (link_at m j)))

-- a turn of party p, by its answer and the meaning then: it alters nothing; brings the waiting operation into force;
-- hands over the answer of one in force; or does the last two at once
pub data Turned {R : Type 0} (d : R) (m : Meaning R) (p : ℕ) : Answer → Meaning R → Type 0 where
  alters_nothing : Turned d m p Run m
  comes : (o : Operation R) → activity_of m p ≡ waits o → Turned d m p Run (brought d m p o)
  ends : (a : Answer) → activity_of m p ≡ in_force a → Turned d m p a (does m p idle)
  comes_and_ends : (o : Operation R) (a : Answer) → activity_of m p ≡ waits o → activity_of (brought d m p o) p ≡ in_force a
      → Turned d m p a (does (brought d m p o) p idle)

-- ** words of the laws

-- the sizes of a meaning are the plan's
pub record Sizes {R : Type 0} (pl : Plan) (m : Meaning R) : Type 0 where
  pub readings : length m.readings ≡ pl.channels
  pub links : length m.links ≡ width pl
  pub activities : length m.activities ≡ pl.parties

-- readings blank, links empty, parties idle
abbrev pub blank_meaning : {R : Type 0} → R → Plan → Meaning R
blank_meaning d pl = record { readings = replicate pl.channels d; links = replicate (width pl) vacant; activities = replicate pl.parties idle }

-- between two meanings party p's operation o came into force
pub record Comes {R : Type 0} (m m' : Meaning R) (p : ℕ) (o : Operation R) : Type 0 where
  pub waited : activity_of m p ≡ waits o
  pub waits_no_more : activity_of m' p ≢ waits o

-- between two meanings party p's put came into force on a live link of channel c
pub record Stores {R : Type 0} (m m' : Meaning R) (p c : ℕ) : Type 0 where
  pub link : ℕ
  pub reading : R
  pub seen : R
  pub comes : Comes m m' p (put link reading)
  pub alive : link_at m link ≡ holds c seen true

-- the waiting operation is on channel c
abbrev pub is_on : {R : Type 0} → Meaning R → Activity R → ℕ → Type 0
is_on m idle c = ⊥
is_on m (waits (take j e)) c = e ≡ c
is_on {R} m (waits (put j r)) c = (x : R) × (t : Bool) × (link_at m j ≡ holds c x t)
is_on {R} m (waits (check j)) c = (x : R) × (t : Bool) × (link_at m j ≡ holds c x t)
is_on m (in_force a) c = ⊥
