-- The events of a root by their numbers: which of them are tokens of its text, and where these stand.
use Rattle.std.proofs.Common.{◌≡◌, ◌≢◌, IfNone, ◌⊎◌, inl, inr, ℕ, zero, suc, ◌+◌, ◌-◌, ◌<◌, ◌≤◌, Bool, true, false, ltb, ltb-false, ltb-true, lt-ltb, List, [], ◌∷◌, length, get_or, slice_get, Option, None, Some, refl, sym, ap, subst, ◌∙◌, arith}
use Rattle.std.proofs.lemmas.Bool.{cases_lt, cases_order}
use Rattle.std.proofs.lemmas.Option.{same_Some}
use Rattle.std.specs.List.{AllWithin, enumerate_from}
use Rattle.std.specs.List.Sorted.{IsPartitionPoint, IsPartitionedBy}
use Rattle.idl_event.specs.Apart.{Numbered, others_in, place_in, site_at, sites_in}
use Rattle.idl_event.specs.Sites.{StandsAt}
use Rattle.idl_event.specs.declared.told.event.Event.{Event}
use Rattle.idl_event.specs.declared.told.event.Event.TheVariants as event
use Rattle.idl_fault.specs.declared.place.Place.{Place}
use Rattle.idl_event.specs.declared.told.site.Site.{Site}
use Rattle.idl_lex.specs.tokens.Tokens.{Token}

-- ---- where an event is among tokens and others

-- what is there in the place of the event with this number, i behind the first, which so many others stand before
abbrev Here : List Site → List Numbered → ℕ → ℕ → ℕ → Option Event → Type 0
Here sites others k i n None = slice_get sites (i - k) ≡ None
Here sites others k i n (Some (event.Emitted place token)) =
    (slice_get sites (i - k) ≡ Some (site_at n place)) × ((x : Numbered) → slice_get others k ≡ Some x → x.0 ≢ n)
Here sites others k i n (Some other) = (e : Event) × (slice_get others k ≡ Some (n, e))

-- so many others stand before an event, and no more
pub record Splits (sites : List Site) (others : List Numbered) (k i n : ℕ) (found : Option Event) : Type 0 where
  pub few : k ≤ i
  pub within : k ≤ length others
  pub before : (j : ℕ) (d : Numbered) → j < k → (get_or others j d).0 < n
  pub behind : (j : ℕ) (d : Numbered) → k ≤ j → j < length others → n ≤ (get_or others j d).0
  pub here : Here sites others k i n found

-- a token more before it
here-token : (sites : List Site) (others : List Numbered) (k i n : ℕ) (found : Option Event) (site : Site) → k ≤ i → Here sites others k i n found → Here (site ∷ sites) others k (suc i) n found
here-token sites others k i n None site few h = let index : suc i - k ≡ suc (i - k) = omega (arith, few) in ap (slice_get (site ∷ sites)) index ∙ h
here-token sites others k i n (Some (event.Emitted place token)) site few h =
    let index : suc i - k ≡ suc (i - k) = omega (arith, few) in (ap (slice_get (site ∷ sites)) index ∙ h.0, h.1)
here-token sites others k i n (Some (event.Entered file)) site few h = h
here-token sites others k i n (Some (event.Left file)) site few h = h
here-token sites others k i n (Some (event.Pragma place tokens)) site few h = h
here-token sites others k i n (Some (event.Fault place code text)) site few h = h

split-token : (sites : List Site) (others : List Numbered) (k i n : ℕ) (found : Option Event) (site : Site) → Splits sites others k i n found → Splits (site ∷ sites) others k (suc i) n found
split-token sites others k i n found site s = record {
  few = omega (arith, s.few);
  within = s.within;
  before = s.before;
  behind = s.behind;
  here = here-token sites others k i n found site s.few s.here;
}

-- another event more before it
here-other : (sites : List Site) (others : List Numbered) (k i n : ℕ) (found : Option Event) (x : Numbered) → Here sites others k i n found → Here sites (x ∷ others) (suc k) (suc i) n found
here-other sites others k i n None x h = let index : suc i - suc k ≡ i - k = omega arith in ap (slice_get sites) index ∙ h
here-other sites others k i n (Some (event.Emitted place token)) x h = let index : suc i - suc k ≡ i - k = omega arith in (ap (slice_get sites) index ∙ h.0, h.1)
here-other sites others k i n (Some (event.Entered file)) x h = h
here-other sites others k i n (Some (event.Left file)) x h = h
here-other sites others k i n (Some (event.Pragma place tokens)) x h = h
here-other sites others k i n (Some (event.Fault place code text)) x h = h

split-other : (sites : List Site) (others : List Numbered) (k i n : ℕ) (found : Option Event) (x : Numbered) → x.0 < n → Splits sites others k i n found → Splits sites (x ∷ others) (suc k) (suc i) n found
split-other sites others k i n found x below s = record {
  few = omega (arith, s.few);
  within = omega (arith, s.within);
  before = lower;
  behind = upper;
  here = here-other sites others k i n found x s.here;
}
  where
    lower : (j : ℕ) (d : Numbered) → j < suc k → (get_or (x ∷ others) j d).0 < n
    lower zero d h = below
    lower (suc j) d h = s.before j d (omega (arith, h))

    upper : (j : ℕ) (d : Numbered) → suc k ≤ j → j < suc (length others) → n ≤ (get_or (x ∷ others) j d).0
    upper zero d h lt = absurd (omega (arith, h))
    upper (suc j) d h lt = s.behind j d (omega (arith, h)) (omega (arith, lt))

-- ---- others are numbered from the first event on

from : (m : ℕ) (events : List Event) (j : ℕ) (d : Numbered) → j < length (others_in (enumerate_from m events)) → m ≤ (get_or (others_in (enumerate_from m events)) j d).0
from m [] j d lt = absurd (omega (arith, lt))
from m (event.Emitted place token ∷ events) j d lt = omega (arith, from (m + 1) events j d lt)
from m (event.Entered file ∷ events) zero d lt = omega arith
from m (event.Left file ∷ events) zero d lt = omega arith
from m (event.Pragma place tokens ∷ events) zero d lt = omega arith
from m (event.Fault place code text ∷ events) zero d lt = omega arith
from m (event.Entered file ∷ events) (suc j) d lt = omega (arith, from (m + 1) events j d (omega (arith, lt)))
from m (event.Left file ∷ events) (suc j) d lt = omega (arith, from (m + 1) events j d (omega (arith, lt)))
from m (event.Pragma place tokens ∷ events) (suc j) d lt = omega (arith, from (m + 1) events j d (omega (arith, lt)))
from m (event.Fault place code text ∷ events) (suc j) d lt = omega (arith, from (m + 1) events j d (omega (arith, lt)))

-- what is first has no lesser number than these
first-above : (m : ℕ) (others : List Numbered) → ((j : ℕ) (d : Numbered) → j < length others → m + 1 ≤ (get_or others j d).0) → (x : Numbered) → slice_get others 0 ≡ Some x → x.0 ≢ m
first-above m [] above x is = absurd cc
first-above m (y ∷ others) above x is = let same : y ≡ x = cc in λ equal. absurd (omega (arith, above 0 y (omega arith), ap (λ (z : Numbered). z.0) same, equal))

-- ---- each event

abbrev SplitsAt : ℕ → List Event → ℕ → ℕ → Type 0
SplitsAt m events i k = Splits (sites_in (enumerate_from m events)) (others_in (enumerate_from m events)) k i (m + i) (slice_get events i)

-- one that is no token, first of these
other-first : (m : ℕ) (events : List Event) (e : Event) → (j : ℕ) (d : Numbered) → 0 ≤ j → j < suc (length (others_in (enumerate_from (m + 1) events)))
    → m + 0 ≤ (get_or ((m, e) ∷ others_in (enumerate_from (m + 1) events)) j d).0
other-first m events e zero d le lt = omega arith
other-first m events e (suc j) d le lt = omega (arith, from (m + 1) events j d (omega (arith, lt)))

none-before : (others : List Numbered) (n j : ℕ) (d : Numbered) → j < 0 → (get_or others j d).0 < n
none-before others n j d lt = absurd (omega (arith, lt))

later : (m i : ℕ) → m + 1 + i ≡ m + suc i
later m i = omega arith

split-first : (m : ℕ) (e : Event) (events : List Event) → SplitsAt m (e ∷ events) 0 0
split-first m (event.Emitted place token) events =
    let number : m ≡ m + 0 = omega arith in
    record {
      few = omega arith;
      within = omega arith;
      before = none-before (others_in (enumerate_from (m + 1) events)) (m + 0);
      behind = λ j d le lt. omega (arith, from (m + 1) events j d lt);
      here = (
        ap (λ n. Some (site_at n place)) number,
        λ x is. subst (λ n. x.0 ≢ n) number (first-above m (others_in (enumerate_from (m + 1) events)) (from (m + 1) events) x is),
      );
    }
split-first m (event.Entered file) events = record {
  few = omega arith;
  within = omega arith;
  before = none-before ((m, event.Entered file) ∷ others_in (enumerate_from (m + 1) events)) (m + 0);
  behind = other-first m events (event.Entered file);
  here = (event.Entered file, ap (λ n. Some (n, event.Entered file)) (let number : m ≡ m + 0 = omega arith in number));
}
split-first m (event.Left file) events = record {
  few = omega arith;
  within = omega arith;
  before = none-before ((m, event.Left file) ∷ others_in (enumerate_from (m + 1) events)) (m + 0);
  behind = other-first m events (event.Left file);
  here = (event.Left file, ap (λ n. Some (n, event.Left file)) (let number : m ≡ m + 0 = omega arith in number));
}
split-first m (event.Pragma place tokens) events = record {
  few = omega arith;
  within = omega arith;
  before = none-before ((m, event.Pragma place tokens) ∷ others_in (enumerate_from (m + 1) events)) (m + 0);
  behind = other-first m events (event.Pragma place tokens);
  here = (event.Pragma place tokens, ap (λ n. Some (n, event.Pragma place tokens)) (let number : m ≡ m + 0 = omega arith in number));
}
split-first m (event.Fault place code text) events = record {
  few = omega arith;
  within = omega arith;
  before = none-before ((m, event.Fault place code text) ∷ others_in (enumerate_from (m + 1) events)) (m + 0);
  behind = other-first m events (event.Fault place code text);
  here = (event.Fault place code text, ap (λ n. Some (n, event.Fault place code text)) (let number : m ≡ m + 0 = omega arith in number));
}

split-none : (m i : ℕ) → SplitsAt m [] i 0
split-none m i = record {
  few = omega arith;
  within = omega arith;
  before = none-before [] (m + i);
  behind = λ j d le lt. absurd (omega (arith, lt));
  here = refl;
}

-- behind one that is no token
behind-other : (m : ℕ) (events : List Event) (e : Event) (i : ℕ) → (k : ℕ) × SplitsAt (m + 1) events i k
    → (k : ℕ) × Splits (sites_in (enumerate_from (m + 1) events)) ((m, e) ∷ others_in (enumerate_from (m + 1) events)) k (suc i) (m + suc i) (slice_get events i)
behind-other m events e i rest =
    let sites = sites_in (enumerate_from (m + 1) events) in
    let others = others_in (enumerate_from (m + 1) events) in (
      suc rest.0,
      subst (λ n. Splits sites ((m, e) ∷ others) (suc rest.0) (suc i) n (slice_get events i)) (later m i)
          (split-other sites others rest.0 i (m + 1 + i) (slice_get events i) (m, e) (omega arith) rest.1),
    )

-- so many others stand before each event
pub split : (m : ℕ) (events : List Event) (i : ℕ) → (k : ℕ) × SplitsAt m events i k
split m [] i = (0, split-none m i)
split m (e ∷ events) zero = (0, split-first m e events)
split m (event.Emitted place token ∷ events) (suc i) =
    let rest = split (m + 1) events i in
    let sites = sites_in (enumerate_from (m + 1) events) in
    let others = others_in (enumerate_from (m + 1) events) in
    (rest.0, subst (λ n. Splits (site_at m place ∷ sites) others rest.0 (suc i) n (slice_get events i)) (later m i) (split-token sites others rest.0 i (m + 1 + i) (slice_get events i) (site_at m place) rest.1))
split m (event.Entered file ∷ events) (suc i) = behind-other m events (event.Entered file) i (split (m + 1) events i)
split m (event.Left file ∷ events) (suc i) = behind-other m events (event.Left file) i (split (m + 1) events i)
split m (event.Pragma place tokens ∷ events) (suc i) = behind-other m events (event.Pragma place tokens) i (split (m + 1) events i)
split m (event.Fault place code text ∷ events) (suc i) = behind-other m events (event.Fault place code text) i (split (m + 1) events i)

-- ---- they are found by halving

module _ {sites : List Site} {others : List Numbered} {k i n : ℕ} {found : Option Event} (s : Splits sites others k i n found) where
  abbrev is_before : Numbered → Bool
  is_before x = ltb x.0 n

  parted-by : (a b : ℕ) (d : Numbered) → a ≤ b → b < length others → is_before (get_or others b d) ≡ true → (a < k) ⊎ (k ≤ a) → is_before (get_or others a d) ≡ true
  parted-by a b d le lt holds (inl h) = lt-ltb (get_or others a d).0 n (s.before a d h)
  parted-by a b d le lt holds (inr h) = absurd (omega (arith, s.behind b d (omega (arith, h, le)) lt, ltb-true (get_or others b d).0 n holds))

  pub partitioned : IsPartitionedBy is_before others
  partitioned a b d le lt holds = parted-by a b d le lt holds (cases_lt a k)

  point-by : (p : ℕ) (d : Numbered) → p ≤ length others → AllWithin (λ y. is_before y ≡ true) others 0 p → AllWithin (λ y. is_before y ≡ false) others p (length others)
      → (p ≡ k) ⊎ ((p < k) ⊎ (k < p)) → p ≡ k
  point-by p d le first last (inl same) = same
  point-by p d le first last (inr (inl h)) =
      absurd (omega (arith, s.before p d h, ltb-false (get_or others p d).0 n (last p d (omega arith) (omega (arith, h, s.within)))))
  point-by p d le first last (inr (inr h)) =
      absurd (omega (arith, s.behind k d (omega arith) (omega (arith, h, le)), ltb-true (get_or others k d).0 n (first k d (omega arith) h)))

  pub point : (p : ℕ) (d : Numbered) → p ≤ length others → IsPartitionPoint (λ y. is_before y ≡ true) (λ y. is_before y ≡ false) others p → p ≡ k
  point p d le at = point-by p d le at.0 at.1 (cases_order p k)

-- ---- which of them are tokens

module _ (sites : List Site) (others : List Numbered) (k n : ℕ) where
  is-token-by : (found : Option Event) (place : Place) → Here sites others k n n found → ((x : Numbered) → slice_get others k ≡ Some x → x.0 ≢ n) → StandsAt sites (n - k) place
      → (token : Token) × (found ≡ Some (event.Emitted place token))
  is-token-by None place h differs stands = absurd (let is = stands.1 in cc)
  is-token-by (Some (event.Emitted at token)) place h differs stands =
      let is : Some (site_at n at) ≡ Some (site_at stands.0 place) = sym h.0 ∙ stands.1 in
      let site : site_at n at ≡ site_at stands.0 place = same_Some (site_at n at) (site_at stands.0 place) is in
      (token, ap (λ (s : Site). Some (event.Emitted (place_in s) token)) site)
  is-token-by (Some (event.Entered file)) place h differs stands = absurd (differs (n, h.0) h.1 refl)
  is-token-by (Some (event.Left file)) place h differs stands = absurd (differs (n, h.0) h.1 refl)
  is-token-by (Some (event.Pragma at tokens)) place h differs stands = absurd (differs (n, h.0) h.1 refl)
  is-token-by (Some (event.Fault at code text)) place h differs stands = absurd (differs (n, h.0) h.1 refl)

  -- where no other stands there, the site is that of the event, which is a token
  pub is-token : (found : Option Event) (place : Place) → Splits sites others k n n found → ((x : Numbered) → slice_get others k ≡ Some x → x.0 ≢ n) → StandsAt sites (n - k) place
      → (token : Token) × (found ≡ Some (event.Emitted place token))
  is-token found place s = is-token-by found place s.here

  -- where one does, it is none
  pub is-other : (found : Option Event) (x : Numbered) → Splits sites others k n n found → slice_get others k ≡ Some x → x.0 ≡ n → (place : Place) (token : Token) → found ≢ Some (event.Emitted place token)
  is-other found x s is same place token h = (subst (Here sites others k n n) h s.here).1 x is same

  -- and where there is no site either
  pub is-nothing : (found : Option Event) → Splits sites others k n n found → slice_get sites (n - k) ≡ None → (place : Place) (token : Token) → found ≢ Some (event.Emitted place token)
  is-nothing found s none place token h = let site = (subst (Here sites others k n n) h s.here).0 in absurd cc

-- of the event with this number
pub split-here : (events : List Event) (n : ℕ) → (k : ℕ) × Splits (sites_in (enumerate_from 0 events)) (others_in (enumerate_from 0 events)) k n n (slice_get events n)
split-here events n =
    let there = split 0 events n in
    let number : 0 + n ≡ n = omega arith in
    (there.0, subst (λ m. Splits (sites_in (enumerate_from 0 events)) (others_in (enumerate_from 0 events)) there.0 n m (slice_get events n)) number there.1)

-- what halving the others comes to says where an event is
pub found-here : (events : List Event) (n p : ℕ) → p ≤ length (others_in (enumerate_from 0 events))
    → IsPartitionPoint (λ y. ltb y.0 n ≡ true) (λ y. ltb y.0 n ≡ false) (others_in (enumerate_from 0 events)) p
    → Splits (sites_in (enumerate_from 0 events)) (others_in (enumerate_from 0 events)) p n n (slice_get events n)
found-here events n p le at =
    let there = split-here events n in
    let sites = sites_in (enumerate_from 0 events) in
    let others = others_in (enumerate_from 0 events) in
    subst (λ k. Splits sites others k n n (slice_get events n)) (sym (point there.1 p (0, event.Pragma (record { file = []; line = 0 }) []) le at)) there.1

-- of what isn't found
pub none-weaker : {R P Q : Type 0} (found : Option R) → (P → Q) → IfNone found P → IfNone found Q
none-weaker None more is = more is
none-weaker (Some r) more is = tt
