-- What placed units hold.
use Rattle.std.proofs.Common.{◌≡◌, ◌≢◌, ◌∙◌, ℕ, zero, suc, ◌+◌, ◌-◌, ◌<◌, Bool, true, false, cond, List, [], ◌∷◌, ◌++◌, length, take, drop, refl, sym, ap, arith, append_assoc, length-append, length-drop, take-append-drop}
use Rattle.std.specs.Prelude.{flat_map, nat_eq, ⊤}
use Rattle.std.specs.List.{enumerate_from}
use Rattle.std.proofs.lemmas.List.{append-nil, nil_from_length}
use Rattle.idl_event.proofs.ApartLemmas.{length-sites_in}
use Rattle.idl_event.specs.Apart.{Numbered, sites_in, tokens_in}
use Rattle.idl_event.specs.declared.told.event.Event.{Event}
use Rattle.idl_event.specs.declared.told.event.Event.TheVariants as event
use Rattle.idl_event.specs.declared.told.site.Site.{Site}
use Rattle.idl_lex.specs.tokens.Tokens.{Token}
use Rattle.idl_unit.specs.Ending.{ends, token_units}
use Rattle.idl_unit.specs.Held.{other_in, text_in, text_sites}
use Rattle.idl_unit.specs.Parts.{AreParts, IsCutInto, joined}
use Rattle.idl_unit.specs.Placing.{Ahead, after_token, begun, begun_of, placed}
use Rattle.idl_unit.specs.Units.{unit_in, units_in, units_of}
use Rattle.idl_unit.specs.declared.unit.Unit.TheVariants.{End}
use Rattle.idl_unit.proofs.EndingLemmas.{ends-end}
use Rattle.idl_unit.proofs.PartsLemmas.{are-parts}
use Rattle.idl_unit.proofs.PlacingLemmas.{ahead_of, placed-inside, placed-units}

flat_map-append : {A B : Type 0} (f : A → List B) (xs ys : List A) → flat_map f (xs ++ ys) ≡ flat_map f xs ++ flat_map f ys
flat_map-append f [] ys = refl
flat_map-append f (x ∷ xs) ys = ap (λ l. f x ++ l) (flat_map-append f xs ys) ∙ sym (append_assoc (f x) (flat_map f xs) (flat_map f ys))

-- none of the units is empty
abbrev AreSome : List (List Token) → Type 0
AreSome [] = ⊤
AreSome (unit ∷ units) = (0 < length unit) × AreSome units

some-length : (unit : List Token) → unit ≢ [] → 0 < length unit
some-length [] some = absurd (some refl)
some-length (t ∷ unit) some = omega arith

are-some : (units : List (List Token)) → AreParts ends units → AreSome units
are-some [] h = tt
are-some (unit ∷ units) h = (some-length unit h.0.some, are-some units h.1)

no_units : (units : List (List Token)) → AreSome units → length (joined units) ≡ 0 → units ≡ []
no_units [] some e = refl
no_units (unit ∷ units) some e = absurd (omega (arith, length-append unit (joined units), some.0))

-- all units of tokens come
texts-placed : (events : List Numbered) (units : List (List Token)) (sites : List Site) (inside : ℕ) → AreSome units → length (tokens_in events) ≡ inside + length (joined units)
    → flat_map text_in (placed (ahead_of units sites inside) events) ≡ units
texts-placed [] units sites inside some fits = sym (no_units units some (omega arith))
texts-placed ((n, event.Emitted place t) ∷ events) [] sites zero some fits = absurd (omega arith)
texts-placed ((n, event.Emitted place t) ∷ events) (unit ∷ units) sites zero some fits =
    ap (λ l. unit ∷ l) (texts-placed events units (drop (length unit) sites) (length unit - 1) some.1 (omega (arith, fits, length-append unit (joined units), some.0)))
texts-placed ((n, event.Emitted place t) ∷ events) units sites (suc m) some fits =
    ap (flat_map text_in) (placed-inside units sites (suc m) n place t events (omega arith))
    ∙ texts-placed events units sites (suc m - 1) some (omega (arith, fits))
texts-placed ((n, event.Entered file) ∷ events) units sites inside some fits = texts-placed events units sites inside some fits
texts-placed ((n, event.Left file) ∷ events) units sites inside some fits = texts-placed events units sites inside some fits
texts-placed ((n, event.Pragma place tokens) ∷ events) units sites inside some fits = texts-placed events units sites inside some fits
texts-placed ((n, event.Fault place code text) ∷ events) units sites inside some fits = texts-placed events units sites inside some fits

-- all their sites come
sites-placed : (events : List Numbered) (units : List (List Token)) (sites : List Site) (inside : ℕ) → AreSome units → length (tokens_in events) ≡ inside + length (joined units)
    → length sites ≡ length (joined units) → flat_map text_sites (placed (ahead_of units sites inside) events) ≡ sites
sites-placed [] units sites inside some fits long = sym (nil_from_length sites (omega arith))
sites-placed ((n, event.Emitted place t) ∷ events) [] sites zero some fits long = absurd (omega arith)
sites-placed ((n, event.Emitted place t) ∷ events) (unit ∷ units) sites zero some fits long =
    ap (λ l. take (length unit) sites ++ l)
    (sites-placed events units (drop (length unit) sites) (length unit - 1) some.1 (omega (arith, fits, length-append unit (joined units), some.0))
    (omega (arith, long, length-drop (length unit) sites, length-append unit (joined units))))
    ∙ take-append-drop (length unit) sites
sites-placed ((n, event.Emitted place t) ∷ events) units sites (suc m) some fits long =
    ap (flat_map text_sites) (placed-inside units sites (suc m) n place t events (omega arith))
    ∙ sites-placed events units sites (suc m - 1) some (omega (arith, fits)) long
sites-placed ((n, event.Entered file) ∷ events) units sites inside some fits long = sites-placed events units sites inside some fits long
sites-placed ((n, event.Left file) ∷ events) units sites inside some fits long = sites-placed events units sites inside some fits long
sites-placed ((n, event.Pragma place tokens) ∷ events) units sites inside some fits long = sites-placed events units sites inside some fits long
sites-placed ((n, event.Fault place code text) ∷ events) units sites inside some fits long = sites-placed events units sites inside some fits long

no_other : (b : Bool) (units : List (List Token)) (sites : List Site) → flat_map other_in (cond b (begun_of units sites) []) ≡ []
no_other true [] sites = refl
no_other true (unit ∷ units) sites = refl
no_other false units sites = refl

-- what is no unit of tokens comes in its order
others-placed : (events : List Numbered) (a : Ahead) → flat_map other_in (placed a events) ≡ flat_map (unit_in false) events
others-placed [] a = refl
others-placed ((n, event.Emitted place t) ∷ events) a =
    flat_map-append other_in (begun a) (placed (after_token a) events)
    ∙ ap (λ l. l ++ flat_map other_in (placed (after_token a) events)) (no_other (nat_eq a.inside 0) a.units a.sites)
    ∙ others-placed events (after_token a)
others-placed ((n, event.Entered file) ∷ events) a = ap (λ l. unit_in false (n, event.Entered file) ++ l) (others-placed events a)
others-placed ((n, event.Left file) ∷ events) a = ap (λ l. unit_in false (n, event.Left file) ++ l) (others-placed events a)
others-placed ((n, event.Pragma place tokens) ∷ events) a = ap (λ l. unit_in false (n, event.Pragma place tokens) ++ l) (others-placed events a)
others-placed ((n, event.Fault place code text) ∷ events) a = others-placed events a

-- tokens are cut into their units
pub tokens-cut : (tokens : List Token) → IsCutInto ends tokens (token_units tokens)
tokens-cut tokens = are-parts ends ends-end tokens

fits-start : (events : List Numbered) → length (tokens_in events) ≡ 0 + length (joined (token_units (tokens_in events)))
fits-start events = sym (ap length (tokens-cut (tokens_in events)).0) ∙ omega arith

pub texts-units : (events : List Event) → flat_map text_in (units_of events) ≡ token_units (tokens_in (enumerate_from 0 events))
unfolding units_of
texts-units events =
    let all = enumerate_from 0 events in
    let units = token_units (tokens_in all) in
    flat_map-append text_in (units_in all) (End ∷ [])
    ∙ append-nil (flat_map text_in (units_in all))
    ∙ ap (flat_map text_in) (sym (placed-units all))
    ∙ texts-placed all units (sites_in all) 0 (are-some units (tokens-cut (tokens_in all)).1) (fits-start all)

pub sites-units : (events : List Event) → flat_map text_sites (units_of events) ≡ sites_in (enumerate_from 0 events)
unfolding units_of
sites-units events =
    let all = enumerate_from 0 events in
    let units = token_units (tokens_in all) in
    flat_map-append text_sites (units_in all) (End ∷ [])
    ∙ append-nil (flat_map text_sites (units_in all))
    ∙ ap (flat_map text_sites) (sym (placed-units all))
    ∙ sites-placed all units (sites_in all) 0 (are-some units (tokens-cut (tokens_in all)).1) (fits-start all) (length-sites_in all ∙ fits-start all ∙ omega arith)

pub others-units : (events : List Event) → flat_map other_in (units_of events) ≡ flat_map (unit_in false) (enumerate_from 0 events) ++ End ∷ []
unfolding units_of
others-units events =
    let all = enumerate_from 0 events in
    flat_map-append other_in (units_in all) (End ∷ [])
    ∙ ap (λ l. l ++ End ∷ [])
    (ap (flat_map other_in) (sym (placed-units all)) ∙ others-placed all (ahead_of (token_units (tokens_in all)) (sites_in all) 0))
