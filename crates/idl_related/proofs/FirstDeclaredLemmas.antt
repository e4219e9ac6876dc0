-- Names that are declared again, and what is told of them and assigned to findings.
use Rattle.std.proofs.Common.{◌≡◌, ◌∙◌, ◌<◌, ◌+◌, ◌&&◌, ◌||◌, ℕ, Bool, true, false, IfOk, OnOk, List, [], ◌∷◌, ◌++◌, Option, None, Some, Result, Ok, Err, ap, arith, cond, drop, filter, flat_map, get_or, is_lt, length, map, nat_cmp, not, refl, reverse, sym, if◌then◌else◌}
use Rattle.std.proofs.lemmas.List.{append-nil, append_assoc, drop_more, map-append, reverse-append}
use Rattle.std.specs.List.{list_any}
use Rattle.std.specs.List.Sorted.{ties}
use Rattle.idl_env.specs.Facts.{UnitFacts}
use Rattle.idl_event.specs.declared.told.event.Event.{Event}
use Rattle.idl_event.specs.declared.told.site.Site.{Site}
use Rattle.idl_fault.specs.declared.code.Code.{Code}
use Rattle.idl_fault.specs.declared.code.Code.TheVariants.{AlreadyDeclared}
use Rattle.idl_finding.specs.Findings.{site_of}
use Rattle.idl_finding.specs.declared.finding.Finding.{Finding}
use Rattle.idl_related.specs.FirstDeclared.{KeepsOrder, Names, UnitsBefore, assigned, first_declaration_over, names_after, places_told, related_at, seconds_at, told_after, told_at, told_by, told_for, with_unit, without_other_places}
use Rattle.idl_check.specs.walk.Verdict.{added}
use Rattle.idl_related.specs.Told.{AreFew, has_second, is_redeclaration}
use Rattle.idl_related.specs.Judged.{IsBehind}
use Rattle.idl_related.specs.declared.judged.JudgedUnits.{JudgedUnits}
use Rattle.idl_related.specs.declared.told.RelatedPlaces.{RelatedPlaces}
use Rattle.idl_related.specs.declared.second.Related.{Related}
use Rattle.idl_related.specs.declared.second.Second.{Second}
use Rattle.idl_related.specs.declared.second.TokenPosition.{TokenPosition}
use Rattle.idl_unit.specs.TokenRules.{first}
use Rattle.idl_unit.specs.declared.fault.Fault.{Fault}
use Rattle.idl_unit.specs.declared.unit.Unit.{Unit as RootUnit}
use Rattle.idl_unit.specs.declared.unit.UnitText.{UnitText}

-- what is put in of items from a place on, behind that of the one there
pub items-behind : {A B : Type 0} (f : A → List B) (xs : List A) (i : ℕ) (x : A) (there next : List B)
    → i < length xs → x ≡ get_or xs i x → next ≡ there ++ f x
    → next ++ flat_map f (drop (i + 1) xs) ≡ there ++ flat_map f (drop i xs)
items-behind f xs i x there next lt at is =
    ap (λ l. l ++ flat_map f (drop (i + 1) xs)) is
    ∙ append_assoc there (f x) (flat_map f (drop (i + 1) xs))
    ∙ ap (λ l. there ++ flat_map f l) (ap (λ y. y ∷ drop (i + 1) xs) at ∙ sym (drop_more xs i x lt))

-- of a result that is two things, what follows from both
pub IfOk-both : {X E : Type 0} (r : Result X E) (P Q R : X → Type 0) → ((x : X) → P x → Q x → R x) → IfOk r P → IfOk r Q → IfOk r R
IfOk-both (Ok x) P Q R both p q = both x p q
IfOk-both (Err e) P Q R both p q = tt

-- ---- which findings may have second places

-- a redeclaration may have them
no-redeclaration : (code : Code) → has_second code ≡ false → is_redeclaration code ≡ false
no-redeclaration AlreadyDeclared none = absurd (let both : true ≡ false = none in cc)
no-redeclaration other none = refl

none-by : (a b x y : Bool) → (a || x) ≡ false → (a ≡ false → b ≡ false) → (x ≡ false → y ≡ false) → (b || y) ≡ false
none-by true b x y none own rest = absurd (let both : true ≡ false = none in cc)
none-by false b x y none own rest = ap (λ (t : Bool). t || y) (own refl) ∙ rest none

-- where none may have any, none is a redeclaration
pub none-redeclared : (fs : List Finding) → list_any (λ f. has_second f.code) fs ≡ false → list_any (λ f. is_redeclaration f.code) fs ≡ false
none-redeclared [] none = refl
none-redeclared (f ∷ fs) none =
    none-by (has_second f.code) (is_redeclaration f.code) (list_any (λ g. has_second g.code) fs) (list_any (λ g. is_redeclaration g.code) fs) none
    (no-redeclaration f.code) (none-redeclared fs)

-- ---- what is told of units

-- what is told of a fault, without other places
without-told : (events : List Event) (fault : Fault) (spot : Option TokenPosition) (site : Site) (seconds : List Second) (b : Bool)
    → (b ≡ true → seconds ≡ seconds_at spot)
    → let t : RelatedPlaces = record { event = site.event; code = fault.code; related = flat_map (related_at events) seconds } in
    let own : RelatedPlaces = record { event = site.event; code = fault.code; related = if b then flat_map (related_at events) (seconds_at spot) else [] } in
    (if b then t else record t { related = [] }) ∷ [] ≡ own ∷ []
without-told events fault spot site seconds true are =
    let at : List Second → List RelatedPlaces = λ s. record { event = site.event; code = fault.code; related = flat_map (related_at events) s } ∷ [] in
    ap at (are refl)
without-told events fault spot site seconds false are = refl

-- behind one that is told
pub told-behind : (events : List Event) (fault : Fault) (spot : Option TokenPosition) (site : Site) (seconds : List Second) (old new : List RelatedPlaces)
    → (is_redeclaration fault.code ≡ true → seconds ≡ seconds_at spot)
    → new ≡ old ++ record { event = site.event; code = fault.code; related = flat_map (related_at events) seconds } ∷ []
    → map without_other_places new ≡ map without_other_places old ++ told_at events fault spot (Some site)
told-behind events fault spot site seconds old new are is =
    let t : RelatedPlaces = record { event = site.event; code = fault.code; related = flat_map (related_at events) seconds } in
    ap (map without_other_places) is ∙ map-append without_other_places old (t ∷ [])
    ∙ ap (λ l. map without_other_places old ++ l) (without-told events fault spot site seconds (is_redeclaration fault.code) are)

-- what is told of a fault that may have second places
pub told-for : (events : List Event) (before : UnitsBefore) (spelled : UnitText × List Site) (fault : Fault) (site : Option Site)
    → has_second fault.code ≡ true → site ≡ site_of spelled.0 spelled.1 fault.index
    → told_at events fault (first_declaration_over before spelled.0 fault.index) site ≡ told_for events before spelled (Some fault)
told-for events before spelled fault site may at =
    let spot = first_declaration_over before spelled.0 fault.index in
    ap (told_at events fault spot) at
    ∙ ap (λ (b : Bool). if b then told_at events fault spot (site_of spelled.0 spelled.1 fault.index) else []) (sym may)

pub told-none : (events : List Event) (before : UnitsBefore) (spelled : UnitText × List Site) (fault : Fault)
    → has_second fault.code ≡ false → [] ≡ told_for events before spelled (Some fault)
told-none events before spelled fault none =
    let spot = first_declaration_over before spelled.0 fault.index in
    ap (λ (b : Bool). if b then told_at events fault spot (site_of spelled.0 spelled.1 fault.index) else []) (sym none)

-- what was told of units, and what is told of those from a place on, behind the one there
pub units-behind : (events : List Event) (before : UnitsBefore) (facts : List UnitFacts) (names : Names) (units : List RootUnit) (u : RootUnit) (old new : List RelatedPlaces)
    → before.number < length units → u ≡ get_or units before.number u
    → facts ≡ before.facts ++ added before.facts u → names ≡ names_after before u
    → map without_other_places new ≡ map without_other_places old ++ told_by events before u
    → map without_other_places new ++ told_after events (record { facts = facts; names = names; number = before.number + 1 }) (drop (before.number + 1) units)
    ≡ map without_other_places old ++ told_after events before (drop before.number units)
units-behind events before facts names units u old new lt at adds declares tells =
    let rest = drop (before.number + 1) units in
    let more = told_after events (with_unit before u) rest in
    ap (λ fs. map without_other_places new ++ told_after events (record { facts = fs; names = names; number = before.number + 1 }) rest) adds
    ∙ ap (λ ns. map without_other_places new ++ told_after events (record { facts = before.facts ++ added before.facts u; names = ns; number = before.number + 1 }) rest) declares
    ∙ ap (λ l. l ++ more) tells
    ∙ append_assoc (map without_other_places old) (told_by events before u) more
    ∙ ap (λ us. map without_other_places old ++ told_after events before us) (ap (λ v. v ∷ rest) at ∙ sym (drop_more units before.number u lt))

-- ---- what is told of one event

-- without other places it is of that event
event-same : (b : Bool) (t : RelatedPlaces) → let u : RelatedPlaces = if b then t else record t { related = [] } in u.event ≡ t.event
event-same true t = refl
event-same false t = refl

abbrev is_earlier : RelatedPlaces → RelatedPlaces → Bool
is_earlier x y = is_lt (nat_cmp x.event y.event)

ties-without : (x : RelatedPlaces) (told : List RelatedPlaces)
    → filter (ties is_earlier x) (map without_other_places told) ≡ map without_other_places (filter (ties is_earlier x) told)
ties-without x [] = refl
ties-without x (t ∷ told) =
    let rest = filter (ties is_earlier x) (map without_other_places told) in
    ap (λ (n : ℕ). cond (not (is_lt (nat_cmp x.event n)) && not (is_lt (nat_cmp n x.event))) (without_other_places t ∷ rest) rest) (event-same (is_redeclaration t.code) t)
    ∙ by (ties is_earlier x t) (ties-without x told)
  where
    by : (b : Bool) → filter (ties is_earlier x) (map without_other_places told) ≡ map without_other_places (filter (ties is_earlier x) told)
        → cond b (without_other_places t ∷ filter (ties is_earlier x) (map without_other_places told)) (filter (ties is_earlier x) (map without_other_places told))
        ≡ map without_other_places (cond b (t ∷ filter (ties is_earlier x) told) (filter (ties is_earlier x) told))
    by true next = ap (λ l. without_other_places t ∷ l) next
    by false next = next

pub kept-without : (old new : List RelatedPlaces) → KeepsOrder old new → KeepsOrder (map without_other_places old) (map without_other_places new)
kept-without old new kept = λ x. ties-without x new ∙ ap (map without_other_places) (kept x) ∙ sym (ties-without x old)

-- ---- what is assigned to findings

pub assigned-none : (f : Finding) (fs : List Finding) (code : Code) (told : List RelatedPlaces) → f.code ≡ code → has_second code ≡ false
    → assigned (f ∷ fs) told ≡ [] ∷ assigned fs told
assigned-none f fs code told same none =
    ap (λ (b : Bool). if b then places_told (first told) ∷ assigned fs (drop 1 told) else [] ∷ assigned fs told) (ap has_second same ∙ none)

assigned-some : (f : Finding) (fs : List Finding) (code : Code) (told : List RelatedPlaces) → f.code ≡ code → has_second code ≡ true
    → assigned (f ∷ fs) told ≡ places_told (first told) ∷ assigned fs (drop 1 told)
assigned-some f fs code told same may =
    ap (λ (b : Bool). if b then places_told (first told) ∷ assigned fs (drop 1 told) else [] ∷ assigned fs told) (ap has_second same ∙ may)

-- the last of what is told goes
pub assigned-last : (f : Finding) (fs : List Finding) (code : Code) (told rest : List RelatedPlaces) (last : RelatedPlaces) → f.code ≡ code → has_second code ≡ true
    → told ≡ rest ++ last ∷ [] → assigned (f ∷ fs) (reverse told) ≡ last.related ∷ assigned fs (reverse rest)
assigned-last f fs code told rest last same may is =
    assigned-some f fs code (reverse told) same may
    ∙ ap (λ l. places_told (first l) ∷ assigned fs (drop 1 l)) (ap reverse is ∙ reverse-append rest (last ∷ []))

-- where nothing is told, nothing goes
pub assigned-empty : (f : Finding) (fs : List Finding) (code : Code) (told rest : List RelatedPlaces) → f.code ≡ code → has_second code ≡ true
    → told ≡ rest → rest ≡ [] → assigned (f ∷ fs) (reverse told) ≡ [] ∷ assigned fs (reverse rest)
assigned-empty f fs code told rest same may is none =
    assigned-some f fs code (reverse told) same may
    ∙ ap (λ l. places_told (first (reverse l)) ∷ assigned fs (drop 1 (reverse l))) (is ∙ none)
    ∙ ap (λ l. [] ∷ assigned fs (reverse l)) (sym none)

-- findings from a place on, of which the one there is assigned this
pub assigned-behind : (findings : List Finding) (i : ℕ) (f : Finding) (told left : List RelatedPlaces) (places : List Related) (there next : List (List Related))
    → i < length findings → f ≡ get_or findings i f → next ≡ there ++ places ∷ []
    → ((fs : List Finding) → assigned (f ∷ fs) (reverse told) ≡ places ∷ assigned fs (reverse left))
    → next ++ assigned (drop (i + 1) findings) (reverse left) ≡ there ++ assigned (drop i findings) (reverse told)
assigned-behind findings i f told left places there next lt at is assigns =
    let rest = drop (i + 1) findings in
    ap (λ l. l ++ assigned rest (reverse left)) is
    ∙ append_assoc there (places ∷ []) (assigned rest (reverse left))
    ∙ ap (λ l. there ++ l) (sym (assigns rest))
    ∙ ap (λ fs. there ++ assigned fs (reverse told)) (ap (λ g. g ∷ rest) at ∙ sym (drop_more findings i f lt))

-- ---- second places

-- there is one at most
pub few-first : (spot : Option TokenPosition) → AreFew (seconds_at spot)
few-first None = omega arith
few-first (Some spot) = omega arith

-- ---- units that declare nothing and have no fault

pub behind-same : (judged : JudgedUnits) (before : UnitsBefore) (unit : RootUnit)
    → names_after before unit ≡ judged.first → told_by judged.expansion.now before unit ≡ []
    → IsBehind judged judged before unit
behind-same judged before unit names told = record {
  expansion = refl;
  asks = refl;
  names = λ asks. sym names;
  told = sym (append-nil (map without_other_places judged.told.items)) ∙ ap (λ l. map without_other_places judged.told.items ++ l) (sym told);
}

-- ---- results

pub on-ok : {T E P : Type 0} (r : Result T E) → P → OnOk r P
on-ok (Ok x) p = p
on-ok (Err e) p = tt
