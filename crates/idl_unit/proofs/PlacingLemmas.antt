-- The cut of events, event by event.
use Rattle.std.proofs.Common.{◌≡◌, ◌≢◌, ◌∙◌, ℕ, suc, ◌+◌, ◌-◌, ◌<◌, ◌≤◌, Bool, true, false, cond, not, ◌||◌, List, [], ◌∷◌, ◌++◌, length, take, drop, refl, sym, ap, subst, arith, append_assoc, length-drop}
use Rattle.std.specs.Prelude.{IfSome, None, flat_map, nat_lt}
use Rattle.std.proofs.lemmas.Bool.{ne_eqb, lt-ltb}
use Rattle.std.proofs.lemmas.List.{append-nil, drop-append-le, drop-drop, drop_all, drop_at, length_push, take_at}
use Rattle.idl_event.proofs.ApartLemmas.{length-sites_in}
use Rattle.idl_event.specs.Apart.{Numbered, others_in, site_at, site_in, sites_in, token_in, tokens_in}
use Rattle.idl_event.specs.declared.told.event.Event.TheVariants as event
use Rattle.idl_fault.specs.declared.place.Place.{Place}
use Rattle.idl_event.specs.declared.told.site.Site.{Site}
use Rattle.idl_lex.specs.tokens.Tokens.{Token}
use Rattle.idl_unit.specs.Cut.{parts_after}
use Rattle.idl_unit.specs.Ending.{ends, is_empty, token_units}
use Rattle.idl_unit.specs.Placing.{Ahead, IsFront, IsWithin, after_begun, after_token, ahead, begun, begun_of, placed, to_come}
use Rattle.idl_unit.specs.declared.cut.Cut.{Cut}
use Rattle.idl_unit.specs.Units.{spelled, stretch_ends, stretch_units, unit_in, units_in}
use Rattle.idl_unit.specs.declared.unit.Unit.{Unit as RootUnit}
use Rattle.idl_unit.specs.declared.unit.Unit.TheVariants.{Spelled}
use Rattle.idl_unit.specs.declared.unit.UnitText.TheVariants.{Tokens}
use Rattle.idl_unit.proofs.CutLemmas.{parts_after-more, pending-end, pending-open}
use Rattle.idl_unit.proofs.EndingLemmas.{ends-end, some-more}

abbrev pub ahead_of : List (List Token) → List Site → ℕ → Ahead
ahead_of units sites inside = record { units = units; sites = sites; inside = inside }

flat_map-push : {A B : Type 0} (f : A → List B) (front : List A) (x : A) → flat_map f (front ++ x ∷ []) ≡ flat_map f front ++ f x
flat_map-push f [] x = append-nil (f x)
flat_map-push f (y ∷ front) x = ap (λ l. f y ++ l) (flat_map-push f front x) ∙ sym (append_assoc (f y) (flat_map f front) (f x))

or-true : (a : Bool) → (a || true) ≡ true
or-true true = refl
or-true false = refl

empty-push : (front : List Token) (t : Token) → is_empty (front ++ t ∷ []) ≡ false
empty-push [] t = refl
empty-push (u ∷ front) t = refl

spelled-some : (unit : List Token) (sites : List Site) → 0 < length unit → spelled unit sites ≡ Spelled (Tokens unit) sites ∷ []
spelled-some [] sites lt = absurd (omega arith)
spelled-some (t ∷ unit) sites lt = refl

-- a token inside a unit
pub placed-inside : (units : List (List Token)) (sites : List Site) (inside n : ℕ) (place : Place) (t : Token) (events : List Numbered) → 0 < inside
    → placed (ahead_of units sites inside) ((n, event.Emitted place t) ∷ events) ≡ placed (ahead_of units sites (inside - 1)) events
placed-inside units sites inside n place t events lt =
    ap (λ b. cond b (begun_of units sites) [] ++ placed (cond b (after_begun units sites) (ahead_of units sites (inside - 1))) events)
    (ne_eqb inside 0 (λ e. omega arith))

-- tokens inside a unit
pub placed-run : (units : List (List Token)) (sites : List Site) (inside : ℕ) (run rest : List Numbered) → length run ≤ inside → others_in run ≡ []
    → placed (ahead_of units sites inside) (run ++ rest) ≡ placed (ahead_of units sites (inside - length run)) rest
placed-run units sites inside [] rest le alone = let same : inside ≡ inside - 0 = omega arith in ap (λ n. placed (ahead_of units sites n) rest) same
placed-run units sites inside ((n, event.Emitted place t) ∷ run) rest le alone =
    let fewer : inside - 1 - length run ≡ inside - suc (length run) = omega arith in
    placed-inside units sites inside n place t (run ++ rest) (omega (arith, le))
    ∙ placed-run units sites (inside - 1) run rest (omega (arith, le)) alone
    ∙ ap (λ m. placed (ahead_of units sites m) rest) fewer
placed-run units sites inside ((n, event.Entered file) ∷ run) rest le alone = cc
placed-run units sites inside ((n, event.Left file) ∷ run) rest le alone = cc
placed-run units sites inside ((n, event.Pragma place tokens) ∷ run) rest le alone = cc
placed-run units sites inside ((n, event.Fault place code text) ∷ run) rest le alone = cc

-- one token
pub placed-one : (a : Ahead) (run rest : List Numbered) → length run ≡ 1 → others_in run ≡ [] → placed a (run ++ rest) ≡ begun a ++ placed (after_token a) rest
placed-one a [] rest one alone = absurd (omega (arith, one))
placed-one a ((n, event.Emitted place t) ∷ []) rest one alone = refl
placed-one a (e ∷ f ∷ run) rest one alone = absurd (omega (arith, one))
placed-one a ((n, event.Entered file) ∷ []) rest one alone = cc
placed-one a ((n, event.Left file) ∷ []) rest one alone = cc
placed-one a ((n, event.Pragma place tokens) ∷ []) rest one alone = cc
placed-one a ((n, event.Fault place code text) ∷ []) rest one alone = cc

-- what stands inside a stretch beside its tokens
abbrev inner : List Numbered → List RootUnit
inner front = flat_map (unit_in true) front

abbrev rest_of : List Token → List (List Token) → List Site → ℕ → List RootUnit → List Numbered → List RootUnit
rest_of unit units sites known inside events =
    spelled unit (take (length unit) sites) ++ (inside ++ placed (ahead_of units (drop (length unit) sites) (length unit - known)) events)

-- the unit that `front` begins goes on
record IsGoing (front events : List Numbered) : Type 0 where
  unit : List Token
  units : List (List Token)
  cut : parts_after ends (tokens_in front) (tokens_in events) ≡ unit ∷ units
  more : length (tokens_in front) < length unit
  is : flat_map stretch_units (parts_after stretch_ends front events)
      ≡ rest_of unit units (sites_in front ++ sites_in events) (length (tokens_in front)) (inner front) events

inner-token : (front : List Numbered) (n : ℕ) (place : Place) (t : Token) → inner (front ++ (n, event.Emitted place t) ∷ []) ≡ inner front
inner-token front n place t = flat_map-push (unit_in true) front (n, event.Emitted place t) ∙ append-nil (inner front)

tokens-push : (front : List Numbered) (n : ℕ) (place : Place) (t : Token) → tokens_in (front ++ (n, event.Emitted place t) ∷ []) ≡ tokens_in front ++ t ∷ []
tokens-push front n place t = flat_map-push token_in front (n, event.Emitted place t)

sites-push : (front : List Numbered) (n : ℕ) (place : Place) (t : Token) → sites_in (front ++ (n, event.Emitted place t) ∷ []) ≡ sites_in front ++ site_at n place ∷ []
sites-push front n place t = flat_map-push site_in front (n, event.Emitted place t)

stretch-push : (front : List Numbered) (n : ℕ) (place : Place) (t : Token)
    → stretch_units (front ++ (n, event.Emitted place t) ∷ []) ≡ spelled (tokens_in front ++ t ∷ []) (sites_in front ++ site_at n place ∷ []) ++ inner front
stretch-push front n place t =
    let all = front ++ (n, event.Emitted place t) ∷ [] in
    let unit = tokens_in front ++ t ∷ [] in
    let sites = sites_in front ++ site_at n place ∷ [] in
    ap (λ ts. spelled ts (sites_in all) ++ flat_map (unit_in (not (is_empty ts))) all) (tokens-push front n place t)
    ∙ ap (λ ss. spelled unit ss ++ flat_map (unit_in (not (is_empty unit))) all) (sites-push front n place t)
    ∙ ap (λ b. spelled unit sites ++ flat_map (unit_in (not b)) all) (empty-push (tokens_in front) t)
    ∙ ap (λ l. spelled unit sites ++ l) (inner-token front n place t)

-- the last token of a unit
going-last : (front : List Numbered) (n : ℕ) (place : Place) (t : Token) (events : List Numbered) → ends (tokens_in front ++ t ∷ []) (tokens_in events) ≡ true
    → placed (ahead_of (token_units (tokens_in events)) (sites_in events) 0) events ≡ units_in events → IsGoing front ((n, event.Emitted place t) ∷ events)
going-last front n place t events end rest =
    let x : Numbered = (n, event.Emitted place t) in
    let all = front ++ x ∷ [] in
    let unit = tokens_in front ++ t ∷ [] in
    let sites = sites_in front ++ site_at n place ∷ [] in
    let same : sites_in front ++ site_at n place ∷ sites_in events ≡ sites ++ sites_in events = sym (append_assoc (sites_in front) (site_at n place ∷ []) (sites_in events)) in
    let long : length sites ≡ length unit = omega (arith, length_push (sites_in front) (site_at n place), length_push (tokens_in front) t, length-sites_in front) in
    let one : 1 ≡ length unit - length (tokens_in front) = omega (arith, length_push (tokens_in front) t) in
    let stretch : stretch_ends all events ≡ true =
    ap (λ ts. is_empty ts || ends ts (tokens_in events)) (tokens-push front n place t) ∙ ap (λ b. is_empty unit || b) end ∙ or-true (is_empty unit) in
    let taken : sites ≡ take (length unit) (sites_in front ++ site_at n place ∷ sites_in events) =
    sym (ap (take (length unit)) same ∙ take_at sites (sites_in events) (length unit) long) in
    let dropped : sites_in events ≡ drop (length unit) (sites_in front ++ site_at n place ∷ sites_in events) =
    sym (ap (drop (length unit)) same ∙ drop_at sites (sites_in events) (length unit) long) in
    record {
      unit = unit;
      units = token_units (tokens_in events);
      cut = parts_after-more ends (tokens_in front) t (tokens_in events) ∙ pending-end ends unit (tokens_in events) (some-more (tokens_in front) t) end;
      more = omega (arith, length_push (tokens_in front) t);
      is =
          ap (flat_map stretch_units) (parts_after-more stretch_ends front x events ∙ pending-end stretch_ends all events (push-some front x) stretch)
          ∙ ap (λ l. l ++ units_in events) (stretch-push front n place t)
          ∙ append_assoc (spelled unit sites) (inner front) (units_in events)
          ∙ ap (λ ss. spelled unit ss ++ (inner front ++ units_in events)) taken
          ∙ ap (λ l. spelled unit (take (length unit) (sites_in front ++ site_at n place ∷ sites_in events)) ++ (inner front ++ l))
          (sym rest
          ∙ ap (λ ss. placed (ahead_of (token_units (tokens_in events)) ss 0) events) dropped
          ∙ sym (placed-inside (token_units (tokens_in events)) (drop (length unit) (sites_in front ++ site_at n place ∷ sites_in events)) 1 n place t events (omega arith))
          ∙ ap (λ m. placed (ahead_of (token_units (tokens_in events)) (drop (length unit) (sites_in front ++ site_at n place ∷ sites_in events)) m) (x ∷ events)) one);
    }
  where
    push-some : (front : List Numbered) (x : Numbered) → front ++ x ∷ [] ≢ []
    push-some [] x e = cc
    push-some (y ∷ front) x e = cc

-- a token after which the unit goes on
going-token : (front : List Numbered) (n : ℕ) (place : Place) (t : Token) (events : List Numbered) → ends (tokens_in front ++ t ∷ []) (tokens_in events) ≡ false
    → IsGoing (front ++ (n, event.Emitted place t) ∷ []) events → IsGoing front ((n, event.Emitted place t) ∷ events)
going-token front n place t events goes g =
    let x : Numbered = (n, event.Emitted place t) in
    let all = front ++ x ∷ [] in
    let known : length (tokens_in all) ≡ length (tokens_in front) + 1 = ap length (tokens-push front n place t) ∙ length_push (tokens_in front) t in
    let same : sites_in all ++ sites_in events ≡ sites_in front ++ site_at n place ∷ sites_in events =
    ap (λ l. l ++ sites_in events) (sites-push front n place t) ∙ append_assoc (sites_in front) (site_at n place ∷ []) (sites_in events) in
    let sites = sites_in front ++ site_at n place ∷ sites_in events in
    let stretch : stretch_ends all events ≡ false =
    ap (λ ts. is_empty ts || ends ts (tokens_in events)) (tokens-push front n place t) ∙ ap (λ b. b || ends (tokens_in front ++ t ∷ []) (tokens_in events)) (empty-push (tokens_in front) t) ∙ goes in
    let inside : 0 < length g.unit - length (tokens_in front) = omega (arith, g.more, known) in
    let fewer : length g.unit - length (tokens_in all) ≡ length g.unit - length (tokens_in front) - 1 = omega (arith, known) in
    record {
      unit = g.unit;
      units = g.units;
      cut =
          parts_after-more ends (tokens_in front) t (tokens_in events)
          ∙ pending-open ends (tokens_in front ++ t ∷ []) (tokens_in events) goes
          ∙ ap (λ f. parts_after ends f (tokens_in events)) (sym (tokens-push front n place t))
          ∙ g.cut;
      more = omega (arith, g.more, known);
      is =
          ap (flat_map stretch_units) (parts_after-more stretch_ends front x events ∙ pending-open stretch_ends all events stretch)
          ∙ g.is
          ∙ ap (λ ss. rest_of g.unit g.units ss (length (tokens_in all)) (inner all) events) same
          ∙ ap (λ i. rest_of g.unit g.units sites (length (tokens_in all)) i events) (inner-token front n place t)
          ∙ ap (λ l. spelled g.unit (take (length g.unit) sites) ++ (inner front ++ l))
          (ap (λ m. placed (ahead_of g.units (drop (length g.unit) sites) m) events) fewer
          ∙ sym (placed-inside g.units (drop (length g.unit) sites) (length g.unit - length (tokens_in front)) n place t events inside));
    }

-- what is no token, inside a unit
going-other : (front : List Numbered) (x : Numbered) (events : List Numbered) → token_in x ≡ [] → site_in x ≡ []
    → ((a : Ahead) → placed a (x ∷ events) ≡ unit_in (nat_lt 0 a.inside) x ++ placed a events)
    → is_empty (tokens_in front) ≡ false → ends (tokens_in front) (tokens_in events) ≡ false → IsGoing (front ++ x ∷ []) events → IsGoing front (x ∷ events)
going-other front x events no_token no_site step some goes g =
    let all = front ++ x ∷ [] in
    let tokens : tokens_in all ≡ tokens_in front = flat_map-push token_in front x ∙ ap (λ l. tokens_in front ++ l) no_token ∙ append-nil (tokens_in front) in
    let sited : sites_in all ≡ sites_in front = flat_map-push site_in front x ∙ ap (λ l. sites_in front ++ l) no_site ∙ append-nil (sites_in front) in
    let tokens_rest : tokens_in (x ∷ events) ≡ tokens_in events = ap (λ l. l ++ tokens_in events) no_token in
    let sites_rest : sites_in (x ∷ events) ≡ sites_in events = ap (λ l. l ++ sites_in events) no_site in
    let same : sites_in all ++ sites_in events ≡ sites_in front ++ sites_in (x ∷ events) = ap (λ l. l ++ sites_in events) sited ∙ ap (λ l. sites_in front ++ l) (sym sites_rest) in
    let sites = sites_in front ++ sites_in (x ∷ events) in
    let known : length (tokens_in all) ≡ length (tokens_in front) = ap length tokens in
    let stretch : stretch_ends all events ≡ false =
    ap (λ ts. is_empty ts || ends ts (tokens_in events)) tokens ∙ ap (λ b. b || ends (tokens_in front) (tokens_in events)) some ∙ goes in
    let a : Ahead = ahead_of g.units (drop (length g.unit) sites) (length g.unit - length (tokens_in front)) in
    let inside : nat_lt 0 a.inside ≡ true = lt-ltb 0 a.inside (omega (arith, g.more, known)) in
    record {
      unit = g.unit;
      units = g.units;
      cut = ap (parts_after ends (tokens_in front)) tokens_rest ∙ ap (λ f. parts_after ends f (tokens_in events)) (sym tokens) ∙ g.cut;
      more = omega (arith, g.more, known);
      is =
          ap (flat_map stretch_units) (parts_after-more stretch_ends front x events ∙ pending-open stretch_ends all events stretch)
          ∙ g.is
          ∙ ap (λ ss. rest_of g.unit g.units ss (length (tokens_in all)) (inner all) events) same
          ∙ ap (λ k. rest_of g.unit g.units sites k (inner all) events) known
          ∙ ap (λ i. rest_of g.unit g.units sites (length (tokens_in front)) i events) (flat_map-push (unit_in true) front x)
          ∙ ap (λ l. spelled g.unit (take (length g.unit) sites) ++ l)
          (append_assoc (inner front) (unit_in true x) (placed a events)
          ∙ ap (λ b. inner front ++ (unit_in b x ++ placed a events)) (sym inside)
          ∙ ap (λ l. inner front ++ l) (sym (step a)));
    }

-- the first token of a unit that is its last
alone : (n : ℕ) (place : Place) (t : Token) (events : List Numbered) → ends (t ∷ []) (tokens_in events) ≡ true
    → placed (ahead_of (token_units (tokens_in events)) (sites_in events) 0) events ≡ units_in events
    → placed (ahead_of (token_units (t ∷ tokens_in events)) (site_at n place ∷ sites_in events) 0) ((n, event.Emitted place t) ∷ events) ≡ units_in ((n, event.Emitted place t) ∷ events)
alone n place t events end rest =
    let x : Numbered = (n, event.Emitted place t) in
    ap (λ us. placed (ahead_of us (site_at n place ∷ sites_in events) 0) (x ∷ events))
    (parts_after-more ends [] t (tokens_in events) ∙ pending-end ends (t ∷ []) (tokens_in events) (λ e. cc) end)
    ∙ ap (λ l. Spelled (Tokens (t ∷ [])) (site_at n place ∷ []) ∷ l) rest
    ∙ ap (flat_map stretch_units) (sym (parts_after-more stretch_ends [] x events ∙ pending-end stretch_ends (x ∷ []) events (λ e. cc) end))

-- the first token of a longer unit
longer : (n : ℕ) (place : Place) (t : Token) (events : List Numbered) → ends (t ∷ []) (tokens_in events) ≡ false → IsGoing ((n, event.Emitted place t) ∷ []) events
    → placed (ahead_of (token_units (t ∷ tokens_in events)) (site_at n place ∷ sites_in events) 0) ((n, event.Emitted place t) ∷ events) ≡ units_in ((n, event.Emitted place t) ∷ events)
longer n place t events goes g =
    let x : Numbered = (n, event.Emitted place t) in
    let sites = site_at n place ∷ sites_in events in
    ap (λ us. placed (ahead_of us sites 0) (x ∷ events))
    (parts_after-more ends [] t (tokens_in events) ∙ pending-open ends (t ∷ []) (tokens_in events) goes ∙ g.cut)
    ∙ ap (λ l. l ++ placed (ahead_of g.units (drop (length g.unit) sites) (length g.unit - 1)) events)
    (sym (spelled-some g.unit (take (length g.unit) sites) (omega (arith, g.more))))
    ∙ sym g.is
    ∙ ap (flat_map stretch_units) (sym (parts_after-more stretch_ends [] x events ∙ pending-open stretch_ends (x ∷ []) events goes))

-- what is no token, outside of units
outside : (x : Numbered) (events : List Numbered) → token_in x ≡ [] → site_in x ≡ [] → ((a : Ahead) → placed a (x ∷ events) ≡ unit_in (nat_lt 0 a.inside) x ++ placed a events)
    → placed (ahead_of (token_units (tokens_in events)) (sites_in events) 0) events ≡ units_in events
    → placed (ahead_of (token_units (tokens_in (x ∷ events))) (sites_in (x ∷ events)) 0) (x ∷ events) ≡ units_in (x ∷ events)
outside x events no_token no_site step rest =
    let stretch : stretch_ends (x ∷ []) events ≡ true =
    ap (λ l. is_empty (l ++ []) || ends (l ++ []) (tokens_in events)) no_token in
    let alone : stretch_units (x ∷ []) ≡ unit_in false x =
    ap (λ l. spelled (l ++ []) (sites_in (x ∷ [])) ++ (unit_in (not (is_empty (l ++ []))) x ++ [])) no_token ∙ append-nil (unit_in false x) in
    step (ahead_of (token_units (tokens_in (x ∷ events))) (sites_in (x ∷ events)) 0)
    ∙ ap (λ l. unit_in false x ++ placed (ahead_of (token_units (l ++ tokens_in events)) (sites_in (x ∷ events)) 0) events) no_token
    ∙ ap (λ l. unit_in false x ++ placed (ahead_of (token_units (tokens_in events)) (l ++ sites_in events) 0) events) no_site
    ∙ ap (λ l. unit_in false x ++ l) rest
    ∙ ap (λ l. l ++ units_in events) (sym alone)
    ∙ ap (flat_map stretch_units) (sym (parts_after-more stretch_ends [] x events ∙ pending-end stretch_ends (x ∷ []) events (λ e. cc) stretch))

no_units : [] ≡ units_in []
unfolding parts_after
no_units = refl

-- what is known of events: their units, where none has begun, and where `front` has begun one
record IsPlaced (events : List Numbered) : Type 0 where
  is : placed (ahead_of (token_units (tokens_in events)) (sites_in events) 0) events ≡ units_in events
  going : (front : List Numbered) → is_empty (tokens_in front) ≡ false → ends (tokens_in front) (tokens_in events) ≡ false → IsGoing front events

none-going : (front : List Numbered) → ends (tokens_in front) [] ≡ false → IsGoing front []
none-going front goes = let end : ends (tokens_in front) [] ≡ true = ends-end (tokens_in front) in absurd (cc)

first : (n : ℕ) (place : Place) (t : Token) (events : List Numbered) → IsPlaced events → (b : Bool) → ends (t ∷ []) (tokens_in events) ≡ b
    → placed (ahead_of (token_units (t ∷ tokens_in events)) (site_at n place ∷ sites_in events) 0) ((n, event.Emitted place t) ∷ events) ≡ units_in ((n, event.Emitted place t) ∷ events)
first n place t events p true end = alone n place t events end p.is
first n place t events p false goes = longer n place t events goes (p.going ((n, event.Emitted place t) ∷ []) refl goes)

next : (front : List Numbered) (n : ℕ) (place : Place) (t : Token) (events : List Numbered) → IsPlaced events → (b : Bool) → ends (tokens_in front ++ t ∷ []) (tokens_in events) ≡ b
    → IsGoing front ((n, event.Emitted place t) ∷ events)
next front n place t events p true end = going-last front n place t events end p.is
next front n place t events p false goes =
    let tokens = tokens-push front n place t in
    going-token front n place t events goes
    (p.going (front ++ (n, event.Emitted place t) ∷ []) (ap is_empty tokens ∙ empty-push (tokens_in front) t) (ap (λ ts. ends ts (tokens_in events)) tokens ∙ goes))

placed-token : (n : ℕ) (place : Place) (t : Token) (events : List Numbered) → IsPlaced events → IsPlaced ((n, event.Emitted place t) ∷ events)
placed-token n place t events p = record {
  is = first n place t events p (ends (t ∷ []) (tokens_in events)) refl;
  going = λ front some goes. next front n place t events p (ends (tokens_in front ++ t ∷ []) (tokens_in events)) refl;
}

placed-other : (x : Numbered) (events : List Numbered) → token_in x ≡ [] → site_in x ≡ [] → ((a : Ahead) → placed a (x ∷ events) ≡ unit_in (nat_lt 0 a.inside) x ++ placed a events)
    → IsPlaced events → IsPlaced (x ∷ events)
placed-other x events no_token no_site step p = record {
  is = outside x events no_token no_site step p.is;
  going = λ front some goes.
      let rest : tokens_in (x ∷ events) ≡ tokens_in events = ap (λ l. l ++ tokens_in events) no_token in
      let on : ends (tokens_in front) (tokens_in events) ≡ false = ap (ends (tokens_in front)) (sym rest) ∙ goes in
      let tokens : tokens_in (front ++ x ∷ []) ≡ tokens_in front = flat_map-push token_in front x ∙ ap (λ l. tokens_in front ++ l) no_token ∙ append-nil (tokens_in front) in
      going-other front x events no_token no_site step some on
      (p.going (front ++ x ∷ []) (ap is_empty tokens ∙ some) (ap (λ ts. ends ts (tokens_in events)) tokens ∙ on));
}

all-placed : (events : List Numbered) → IsPlaced events
all-placed [] = record { is = no_units; going = λ front some goes. none-going front goes }
all-placed ((n, event.Emitted place t) ∷ events) = placed-token n place t events (all-placed events)
all-placed ((n, event.Entered file) ∷ events) = placed-other (n, event.Entered file) events refl refl (λ a. refl) (all-placed events)
all-placed ((n, event.Left file) ∷ events) = placed-other (n, event.Left file) events refl refl (λ a. refl) (all-placed events)
all-placed ((n, event.Pragma place tokens) ∷ events) = placed-other (n, event.Pragma place tokens) events refl refl (λ a. refl) (all-placed events)
all-placed ((n, event.Fault place code text) ∷ events) = placed-other (n, event.Fault place code text) events refl refl (λ a. refl) (all-placed events)

-- the units of events, placed event by event
pub placed-units : (events : List Numbered) → placed (ahead_of (token_units (tokens_in events)) (sites_in events) 0) events ≡ units_in events
placed-units events = (all-placed events).is

none-begins : (sites : List Site) → (begun (ahead_of (token_units []) sites 0) ≡ []) × (ahead_of (token_units []) sites 0 ≡ after_token (ahead_of (token_units []) sites 0))
unfolding parts_after
none-begins sites = (refl, refl)

-- none begins where no token is left
pub begin-none : (text : List Token) (sites : List Site) (from inside : ℕ) → inside ≡ 0 → length text ≤ from
    → (begun (ahead_of (token_units (drop from text)) (drop from sites) inside) ≡ [])
    × (ahead_of (token_units (drop from text)) (drop from sites) inside ≡ after_token (ahead_of (token_units (drop from text)) (drop from sites) inside))
begin-none text sites from inside outside le =
    let nil : drop from text ≡ [] = drop_all from text le in
    let none = none-begins (drop from sites) in (
      ap (λ n. begun (ahead_of (token_units (drop from text)) (drop from sites) n)) outside
          ∙ ap (λ l. begun (ahead_of (token_units l) (drop from sites) 0)) nil ∙ none.0,
      ap (λ n. ahead_of (token_units (drop from text)) (drop from sites) n) outside
          ∙ ap (λ l. ahead_of (token_units l) (drop from sites) 0) nil
          ∙ none.1
          ∙ ap (λ l. after_token (ahead_of (token_units l) (drop from sites) 0)) (sym nil)
          ∙ ap (λ n. after_token (ahead_of (token_units (drop from text)) (drop from sites) n)) (sym outside),
    )

-- where the cut begins, it is within the text
pub start-within : (cut : Cut) (events : List Numbered) → cut.text.now ≡ tokens_in events → cut.sites.now.value ≡ sites_in events
    → cut.taken ≡ 0 → cut.run ≡ None → IsWithin cut
start-within cut events text sites taken none = record {
  length_same = ap length sites ∙ length-sites_in events ∙ sym (ap length text);
  taken_at_most = omega arith;
  run = subst (λ r. IfSome r (λ run. cut.place < length run.now → IsFront run.now cut.place (drop cut.taken cut.text.now))) (sym none) tt;
}

-- what comes first behind tokens of a run
pub front-behind : (text run : List Token) (taken place len : ℕ) → IsFront run place (drop taken text) → place + len < length run
    → IsFront run (place + len) (drop (taken + len) text)
front-behind text run taken place len front lt = record {
  some = lt;
  rest = front.rest;
  all =
      sym (drop-drop len taken text)
      ∙ ap (drop len) front.all
      ∙ drop-append-le len (drop place run) front.rest (omega (arith, length-drop place run))
      ∙ ap (λ l. l ++ front.rest) (drop-drop len place run);
}

-- and all units are to come
pub start-to_come : (cut : Cut) (events : List Numbered) → cut.text.now ≡ tokens_in events → cut.sites.now.value ≡ sites_in events
    → cut.units.items ≡ [] → cut.taken ≡ 0 → cut.inside ≡ 0 → to_come cut events ≡ units_in events
start-to_come cut events text sites units taken inside =
    ap (λ l. l ++ placed (ahead cut) events) units
    ∙ ap (λ n. placed (ahead_of (token_units (drop n cut.text.now)) (drop n cut.sites.now.value) cut.inside) events) taken
    ∙ ap (λ l. placed (ahead_of (token_units l) cut.sites.now.value cut.inside) events) text
    ∙ ap (λ l. placed (ahead_of (token_units (tokens_in events)) l cut.inside) events) sites
    ∙ ap (λ n. placed (ahead_of (token_units (tokens_in events)) (sites_in events) n) events) inside
    ∙ placed-units events
