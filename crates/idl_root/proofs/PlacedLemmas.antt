-- Each name of a root's details is declared at a token.
use Rattle.std.proofs.Common.{◌≡◌, ◌≢◌, ◌∙◌, ◌+◌, ◌-◌, ◌<◌, ℕ, Bool, true, false, cond, List, [], ◌∷◌, ◌++◌, Option, None, Some, Result, Ok, Err, drop, filter, flat_map, length, map, slice_get, refl, sym, ap, subst, inl, inr, if◌then◌else◌, length-append, arith}
use Rattle.std.proofs.lemmas.Bool.{false≢true}
use Rattle.std.proofs.lemmas.List.{map-append}
use Rattle.std.proofs.lemmas.List.Elements.{All-from_recursion, filter-append, recursion_from_All}
use Rattle.std.specs.Prelude.{All, Contains}
use Rattle.std.specs.Cmp.Lexicographic.{bytes_decides, pointwise_decides}
use Rattle.std.specs.List.{AllByRecursion}
use Rattle.std.specs.Option.{unwrap_or}
use Rattle.idl_root_blocks.specs.idl_check.ids.About.{Said, about, about_entity, refused_for, said_at, unnamed_faults, with_faults}
use Rattle.idl_root_blocks.specs.idl_check.ids.Pragmas.{said, text_faults}
use Rattle.idl_root_blocks.specs.idl_check.tables.Rules.{has_id}
use Rattle.idl_root_blocks.specs.idl_check.walk.Judging.{IsSpoken}
use Rattle.idl_root_blocks.specs.idl_check.walk.Names.{declared_as, declared_paths, unit_names}
use Rattle.idl_root_blocks.specs.idl_check.walk.Placing.{faulty_step}
use Rattle.idl_root_blocks.specs.idl_check.walk.Verdict.{faulty, verdict, verdict_over}
use Rattle.idl_root_blocks.specs.idl_check.declared.walk.names.NamedSite.{NamedSite}
use Rattle.idl_root_blocks.specs.idl_check.declared.walk.names.NameRole.{NameRole}
use Rattle.idl_root_blocks.specs.idl_check.declared.walk.names.NameRole.TheVariants.{Declared, Used}
use Rattle.idl_root_blocks.specs.idl_check.declared.walk.verdict.Verdict.{Verdict}
use Rattle.idl_entity.specs.Path.{path_eq}
use Rattle.idl_entity.specs.declared.entity.Entity.{Entity}
use Rattle.idl_entity.specs.declared.identity.Fixed.{Fixed}
use Rattle.idl_entity.specs.declared.identity.Fixed.TheVariants.{Version, Id}
use Rattle.idl_entity.specs.declared.identity.Identity.{Identity}
use Rattle.idl_entity.specs.declared.identity.Prefix.{Prefix}
use Rattle.idl_env.proofs.Membership.{Contains-IsIn, IsIn, IsIn-Contains}
use Rattle.idl_env.specs.Facts.{UnitFacts, answers, boundary, entity_in, entity_key, scopes_in}
use Rattle.idl_env.specs.Turns.{most_turns}
use Rattle.idl_env.specs.declared.additions.addition.Addition.{Addition}
use Rattle.idl_env.specs.declared.additions.addition.Addition.TheVariants.{Appears, Declares, Identifies, TypePrefixes, Uses, UsesFurther}
use Rattle.idl_env.specs.declared.additions.addition.Step.{Step}
use Rattle.idl_env.specs.declared.additions.addition.Step.TheVariants.{Enters, Leaves, Stays}
use Rattle.idl_env.specs.declared.answering.answer.Answer.{Answer}
use Rattle.idl_env.specs.declared.answering.answer.Scope.{Scope}
use Rattle.idl_env.specs.declared.keys.key.Key.{Key}
use Rattle.idl_env.specs.declared.keys.key.Key.TheVariants.{Cursor}
use Rattle.idl_event.specs.Apart.{place_in}
use Rattle.idl_event.specs.declared.told.event.Event.{Event}
use Rattle.idl_event.specs.declared.told.site.Site.{Site}
use Rattle.idl_fault.specs.declared.code.Code.TheVariants.{NoRepositoryId}
use Rattle.idl_lex.specs.tokens.Tokens.{Token}
use Rattle.idl_memo.proofs.QueryLaws.{outcome-and_then}
use Rattle.idl_memo.specs.Query.{Done, and_then, outcome}
use Rattle.idl_root.proofs.ToldLemmas.{AreSited, IsSited, item-there, units-sited}
use Rattle.idl_root.specs.Compile.{Outcome, outcome_of}
use Rattle.idl_root.specs.Details.{details, entry_of, listed_entries}
use Rattle.idl_finding.specs.Findings.{site_of, tokens_of}
use Rattle.idl_root.specs.Judged.{judged_after}
use Rattle.idl_root.specs.Named.{NamedUnit, closes, closings_in, end_before, ends_of, is_used, named_after, named_over, names_over, opens}
use Rattle.idl_root.specs.NamePlaces.{declared_by, declared_in, declared_names, declared_until, declared_with, is_at, last_in, places_at, sited, sited_in}
use Rattle.idl_finding.specs.Number.{token_number}
use Rattle.idl_root.specs.Printed.{Listed, first_paths, listed_in, listed_with}
use Rattle.idl_root.specs.declared.compiling.detailing.DetailedEntry.{DetailedEntry}
use Rattle.idl_root.specs.declared.compiling.places.PlacedName.{PlacedName}
use Rattle.idl_root.specs.declared.compiling.places.SitedToken.{SitedToken}
use Rattle.idl_scope.specs.Known.{known}
use Rattle.idl_scope.specs.Lookup.{by_result, denoted}
use Rattle.idl_scope.specs.declared.fault.NameFault.{NameFault}
use Rattle.idl_scope.specs.declared.found.Found.{Found}
use Rattle.idl_tree.specs.NameParts.{last_at}
use Rattle.idl_tree.specs.declared.name.ScopedName.{ScopedName}
use Rattle.idl_tree.specs.declared.pragma.Pragma.{Pragma}
use Rattle.idl_tree.specs.declared.pragma.Pragma.TheVariants as pragma
use Rattle.idl_unit.specs.TokenRules.{fault_at, first}
use Rattle.idl_unit.specs.Units.{units_of}
use Rattle.idl_unit.specs.declared.fault.Fault.{Fault}
use Rattle.idl_unit.specs.declared.unit.Unit.{Unit as RootUnit}
use Rattle.idl_unit.specs.declared.unit.Unit.TheVariants.{Spelled, Entered, Left, End}
use Rattle.idl_unit.specs.declared.unit.UnitText.{UnitText}
use Rattle.idl_unit.specs.declared.unit.UnitText.TheVariants.{Tokens, Pragma as OfPragma}

-- ---- lists

module _ {X : Type 0} (P : X → Type 0) where
  pub both-lists : (xs ys : List X) → AllByRecursion P xs → AllByRecursion P ys → AllByRecursion P (xs ++ ys)
  both-lists [] ys p q = q
  both-lists (x ∷ xs) ys p q = (p.0, both-lists xs ys p.1 q)

  behind-first : (xs : List X) → AllByRecursion P xs → AllByRecursion P (drop 1 xs)
  behind-first [] p = tt
  behind-first (x ∷ xs) p = p.1

  pub weaker-list : (Q : X → Type 0) → ((x : X) → Q x → P x) → (xs : List X) → AllByRecursion Q xs → AllByRecursion P xs
  weaker-list Q f [] p = tt
  weaker-list Q f (x ∷ xs) p = (f x p.0, weaker-list Q f xs p.1)

some-there : {X : Type 0} (xs : List X) → xs ≢ [] → 0 < length xs
some-there [] h = absurd (h refl)
some-there (x ∷ xs) h = omega arith

-- ---- the places at a path

-- how many these names have
abbrev counted : List (List ℕ) → List PlacedName → ℕ
counted path names = length (places_at path names)

counted-append : (path : List (List ℕ)) (xs ys : List PlacedName) → counted path (xs ++ ys) ≡ counted path xs + counted path ys
counted-append path xs ys =
    ap (λ (ns : List PlacedName). length (map (λ (n : PlacedName). n.place) ns)) (filter-append (is_at path) xs ys)
    ∙ ap length (map-append (λ (n : PlacedName). n.place) (filter (is_at path) xs) (filter (is_at path) ys))
    ∙ length-append (places_at path xs) (places_at path ys)

counted-own : (path : List (List ℕ)) (name : PlacedName) → name.path ≡ path → counted path (name ∷ []) ≡ 1
counted-own path name is =
    ap (λ (b : Bool). length (map (λ (n : PlacedName). n.place) (if b then name ∷ [] else []))) (ap (path_eq path) is ∙ (pointwise_decides bytes_decides path path).1 refl)

-- ---- tokens of units

abbrev pub IsThere : Option SitedToken → Type 0
IsThere o = (token : SitedToken) × (o ≡ Some token)

-- Each token of a unit has a site, and each name stands at a token. A pragma has no name, and closes
-- nothing.
abbrev pub ArePlaced : UnitText → List Site → List NamedSite → Step → Type 0
ArePlaced (Tokens tokens) sites names step = AreSited (Tokens tokens) sites × AllByRecursion (λ (s : NamedSite). s.index < length tokens) names
ArePlaced (OfPragma tokens inside) sites names step = (names ≡ []) × (closes step ≡ false)

abbrev pub IsPlaced : NamedUnit → Type 0
IsPlaced n = ArePlaced n.text n.sites n.names n.step

module _ (events : List Event) where
  sited-there : (s : Option Site) (t : Option Token) → (site : Site) × (s ≡ Some site) → (token : Token) × (t ≡ Some token) → IsThere (sited events s t)
  sited-there s t site token = (record { place = place_in site.0; number = token_number events site.0.event; text = token.0 }, (λ i. sited events (site.1 i) (token.1 i)))

  -- the token with a number of a text
  abbrev pub token_of : UnitText → List Site → ℕ → Option SitedToken
  token_of text sites i = sited events (site_of text sites i) (slice_get (tokens_of text) i)

  token-there : (tokens : List Token) (sites : List Site) → AreSited (Tokens tokens) sites → (i : ℕ) → i < length tokens → IsThere (token_of (Tokens tokens) sites i)
  token-there tokens sites are i lt = sited-there (slice_get sites i) (slice_get tokens i) (item-there sites i (omega (arith, are.1, lt))) (item-there tokens i lt)

  pub first-token : (tokens : List Token) (sites : List Site) → AreSited (Tokens tokens) sites → IsThere (token_of (Tokens tokens) sites 0)
  first-token tokens sites are = token-there tokens sites are 0 (some-there tokens are.0)

  pub last-token : (tokens : List Token) (sites : List Site) → AreSited (Tokens tokens) sites → IsThere (token_of (Tokens tokens) sites (length tokens - 1))
  last-token tokens sites are = let some = some-there tokens are.0 in token-there tokens sites are (length tokens - 1) (omega (arith, some))

  -- a unit that closes has a last token
  abbrev pub LastThere : NamedUnit → Type 0
  LastThere n = IsThere (last_in events n)

  closing-last : (text : UnitText) (sites : List Site) (names : List NamedSite) (step : Step) → ArePlaced text sites names step → closes step ≡ true
      → IsThere (token_of text sites (length (tokens_of text) - 1))
  closing-last (Tokens tokens) sites names step are h = last-token tokens sites are.0
  closing-last (OfPragma tokens inside) sites names step are h = absurd (false≢true (sym are.1 ∙ h))

  pub closings-there : (units : List NamedUnit) → AllByRecursion IsPlaced units → AllByRecursion LastThere (closings_in units)
  closings-there [] are = tt
  closings-there (n ∷ units) are = by (closings-there units are.1) (opens n.step) (closes n.step) refl
    where
      by : AllByRecursion LastThere (closings_in units) → (b c : Bool) → closes n.step ≡ c
          → AllByRecursion LastThere (if b then drop 1 (closings_in units) else if c then n ∷ closings_in units else closings_in units)
      by more true c is = behind-first LastThere (closings_in units) more
      by more false true is = (closing-last n.text n.sites n.names n.step are.0 is, more)
      by more false false is = more

  pub end-there : (n : NamedUnit) (closings : List NamedUnit) → LastThere n → AllByRecursion LastThere closings → LastThere (end_before n.step n closings)
  end-there n closings own more = by (opens n.step) closings more
    where
      by : (b : Bool) (closings : List NamedUnit) → AllByRecursion LastThere closings → LastThere (if b then unwrap_or (first closings) n else n)
      by true [] more = own
      by true (c ∷ closings) more = more.0
      by false closings more = own

  -- ---- the names of a unit

  module _ (n end : NamedUnit) (begins : IsThere (sited_in events n 0)) (ends : LastThere end) (path : List (List ℕ)) where
    abbrev declared_so : NameRole → NamedSite → List PlacedName
    declared_so role s =
        elim role as (λ _. List PlacedName) [ Declared ↦ declared_with s.path (sited_in events n s.index) (sited_in events n 0) (last_in events end) | Used ↦ [] ]

    names-there : (names : List NamedSite) → AllByRecursion (λ (s : NamedSite). IsThere (sited_in events n s.index)) names → IsIn path (declared_paths names)
        → 0 < counted path (flat_map (declared_by events n end) names)
    names-there [] are i = absurd i
    names-there (s ∷ names) are i = by (names-there names are.1) s.role i
      where
        by : (IsIn path (declared_paths names) → 0 < counted path (flat_map (declared_by events n end) names)) → (role : NameRole)
            → IsIn path (declared_as role s.path ++ declared_paths names) → 0 < counted path (declared_so role s ++ flat_map (declared_by events n end) names)
        by more Declared (inl e) =
            let rest = flat_map (declared_by events n end) names in
            let here = declared_so Declared s in
            let name : PlacedName = record { path = s.path; place = record { name = are.0.0; first = begins.0; last = ends.0 } } in
            let is : here ≡ name ∷ [] = (λ i. declared_with s.path (are.0.1 i) (begins.1 i) (ends.1 i)) in
            let one : counted path here ≡ 1 = ap (counted path) is ∙ counted-own path name e in
            omega (arith, counted-append path here rest, one)
        by more Declared (inr i) =
            let rest = flat_map (declared_by events n end) names in
            let here = declared_so Declared s in
            omega (arith, counted-append path here rest, more i)
        by more Used i = more i

  unit-there : (n : NamedUnit) (closings : List NamedUnit) → IsPlaced n → AllByRecursion LastThere closings → (path : List (List ℕ)) → IsIn path (declared_paths n.names)
      → 0 < counted path (declared_in events n (end_before n.step n closings))
  unit-there n closings are more path i = by n.text refl are
    where
      by : (text : UnitText) → n.text ≡ text → ArePlaced text n.sites n.names n.step → 0 < counted path (declared_in events n (end_before n.step n closings))
      by (Tokens tokens) is are =
          let there : (k : ℕ) → IsThere (token_of (Tokens tokens) n.sites k) → IsThere (sited_in events n k) = λ k. subst (λ text. IsThere (token_of text n.sites k)) (sym is) in
          let last : LastThere n = subst (λ text. IsThere (token_of text n.sites (length (tokens_of text) - 1))) (sym is) (last-token tokens n.sites are.0) in
          names-there n (end_before n.step n closings) (there 0 (first-token tokens n.sites are.0)) (end-there n closings last more) path n.names
          (weaker-list (λ (s : NamedSite). IsThere (sited_in events n s.index)) (λ (s : NamedSite). s.index < length tokens) (λ s lt. there s.index (token-there tokens n.sites are.0 s.index lt)) n.names are.1)
          i
      by (OfPragma tokens inside) is are = absurd (subst (λ (names : List NamedSite). IsIn path (declared_paths names)) are.0 i)

-- ---- what a pragma does

module _ (turns : ℕ) (answers : Key → Option Answer) where
  abbrev Stands : Said → Type 0
  Stands s = closes s.step ≡ false

  entity-stands : (at : ℕ) (change : Fixed) (e : Entity) → Stands (outcome (about_entity at change e) answers)
  entity-stands at change e = by_kind (has_id e.kind)
    where
      by_id : (o : Option Identity) → Stands (elim o as (λ _. Said) [ None ↦ refused_for [] | Some d ↦ said_at at change e.path d ])
      by_id None = refl
      by_id (Some d) = refl

      by_kind : (b : Bool) → Stands (outcome (if b then (and_then (known e.path) (λ d. Done (elim d as (λ _. Said) [ None ↦ refused_for [] | Some d ↦ said_at at change e.path d ]))) else (Done (refused_for (fault_at at NoRepositoryId ∷ [])))) answers)
      by_kind true =
          subst Stands (sym (outcome-and_then (known e.path) (λ d. Done (elim d as (λ _. Said) [ None ↦ refused_for [] | Some d ↦ said_at at change e.path d ])) answers))
          (by_id (outcome (known e.path) answers))
      by_kind false = refl

  about-stands : (scopes : List Scope) (name : ScopedName) (change : Fixed) → Stands (outcome (about 2 turns scopes name change) answers)
  about-stands scopes name change =
      let query = denoted turns scopes name in
      subst Stands (sym (outcome-and_then query (λ r. by_result r (λ found. about_entity (last_at 2 name) change found.entity) (λ fault. Done (refused_for (unnamed_faults 2 name fault)))) answers))
      (by_found (outcome query answers))
    where
      by_found : (r : Result Found NameFault) → Stands (outcome (by_result r (λ found. about_entity (last_at 2 name) change found.entity) (λ fault. Done (refused_for (unnamed_faults 2 name fault)))) answers)
      by_found (Ok found) = entity-stands (last_at 2 name) change found.entity
      by_found (Err fault) = refl

  said-stands : (scopes : List Scope) (p : Pragma) → Stands (outcome (said turns scopes p) answers)
  said-stands scopes (pragma.Prefix text) = refl
  said-stands scopes (pragma.Id name text) =
      subst Stands (sym (outcome-and_then (about 2 turns scopes name (Id text)) (λ s. Done (with_faults (text_faults (last_at 2 name + 1) text) s)) answers)) (about-stands scopes name (Id text))
  said-stands scopes (pragma.Version name major minor) = about-stands scopes name (Version major minor)

-- ---- units

-- what appears is among what is added
pub first-in : (path : List (List ℕ)) (more : List Addition) → IsIn path (first_paths more) → (prefix : Prefix) × IsIn (Appears path prefix) more
first-in path [] i = absurd i
first-in path (Declares e ∷ more) i = let found = first-in path more i in (found.0, inr found.1)
first-in path (Uses n p body ∷ more) i = let found = first-in path more i in (found.0, inr found.1)
first-in path (UsesFurther n p further ∷ more) i = let found = first-in path more i in (found.0, inr found.1)
first-in path (Appears p prefix ∷ more) (inl e) = (prefix, inl (ap (λ q. Appears q prefix) e))
first-in path (Appears p prefix ∷ more) (inr i) = let found = first-in path more i in (found.0, inr found.1)
first-in path (Identifies p identity ∷ more) i = let found = first-in path more i in (found.0, inr found.1)
first-in path (TypePrefixes p text ∷ more) i = let found = first-in path more i in (found.0, inr found.1)

listed-all : (P : List (List ℕ) → Type 0) (text : UnitText) (sites : List Site) (paths : List (List (List ℕ))) → ((path : List (List ℕ)) → IsIn path paths → P path)
    → AllByRecursion (λ (l : Listed). P l.path) (listed_with text sites paths)
listed-all P text sites [] each = tt
listed-all P text sites (path ∷ paths) each = (each path (inl refl), listed-all P text sites paths (λ p i. each p (inr i)))

-- what holds of each holds of each that passes
kept-each : {X : Type 0} (P : X → Type 0) (p : X → Bool) (xs : List X) → AllByRecursion P xs → AllByRecursion P (filter p xs)
kept-each P p [] are = tt
kept-each P p (x ∷ xs) are = by (p x) (kept-each P p xs are.1)
  where
    by : (b : Bool) → AllByRecursion P (filter p xs) → AllByRecursion P (cond b (x ∷ filter p xs) (filter p xs))
    by true rest = (are.0, rest)
    by false rest = rest

-- by the laws of names and of verdicts
module _
    (appearing : (turns : ℕ) (text : UnitText) (answers : Key → Option Answer) (path : List (List ℕ)) (prefix : Prefix)
    → Contains (outcome (verdict turns text) answers).writes.additions (Appears path prefix) → Contains (declared_paths (unit_names turns answers text)) path)
    (within : (turns : ℕ) (tokens : List Token) (answers : Key → Option Answer) → All (λ n. n.index < length tokens) (unit_names turns answers (Tokens tokens)))
    (refused : (turns : ℕ) (tokens : List Token) (answers : Key → Option Answer) (fault : Fault)
    → (outcome (verdict turns (Tokens tokens)) answers).fault ≡ Some fault → outcome (verdict turns (Tokens tokens)) answers ≡ faulty fault (faulty_step tokens))
    (refused-pragma : (turns : ℕ) (tokens : List Token) (inside : Bool) (answers : Key → Option Answer) (fault : Fault)
    → (outcome (verdict turns (OfPragma tokens inside)) answers).fault ≡ Some fault → outcome (verdict turns (OfPragma tokens inside)) answers ≡ faulty fault Stays)
    (spoken : (turns : ℕ) (tokens : List Token) (inside : Bool) (answers : Key → Option Answer)
    → (outcome (verdict turns (OfPragma tokens inside)) answers).fault ≡ None → IsSpoken turns answers tokens inside (outcome (verdict turns (OfPragma tokens inside)) answers))
  where
    pub faulty-none : (facts : List UnitFacts) (text : UnitText) (fault : Fault) → (verdict_over facts text).fault ≡ Some fault → (verdict_over facts text).writes.additions ≡ []
    faulty-none facts (Tokens tokens) fault is = ap (λ (v : Verdict). v.writes.additions) (refused most_turns tokens (answers facts) fault is)
    faulty-none facts (OfPragma tokens inside) fault is = ap (λ (v : Verdict). v.writes.additions) (refused-pragma most_turns tokens inside (answers facts) fault is)

    pub first-named : (facts : List UnitFacts) (text : UnitText) (path : List (List ℕ)) → IsIn path (first_paths (verdict_over facts text).writes.additions) → IsIn path (declared_paths (names_over facts text))
    first-named facts text path i = by (verdict_over facts text).fault refl
      where
        by : (o : Option Fault) → (verdict_over facts text).fault ≡ o
            → IsIn path (declared_paths (elim o as (λ _. List NamedSite) [ None ↦ unit_names most_turns (answers facts) text | Some fault ↦ filter is_used (unit_names most_turns (answers facts) text) ]))
        by None is =
            let found = first-in path (verdict_over facts text).writes.additions i in
            IsIn-Contains path (declared_paths (unit_names most_turns (answers facts) text))
            (appearing most_turns text (answers facts) path found.0 (Contains-IsIn (Appears path found.0) (verdict_over facts text).writes.additions found.1))
        by (Some fault) is = absurd (subst (λ (more : List Addition). IsIn path (first_paths more)) (faulty-none facts text fault is) i)

    placed-at : (facts : List UnitFacts) (text : UnitText) (sites : List Site) → AreSited text sites → IsPlaced (named_over facts text sites)
    placed-at facts (Tokens tokens) sites are = (are, by (verdict_over facts (Tokens tokens)).fault)
      where
        inside : AllByRecursion (λ (s : NamedSite). s.index < length tokens) (unit_names most_turns (answers facts) (Tokens tokens))
        inside = recursion_from_All (λ (s : NamedSite). s.index < length tokens) (unit_names most_turns (answers facts) (Tokens tokens)) (within most_turns tokens (answers facts))

        by : (o : Option Fault) → AllByRecursion (λ (s : NamedSite). s.index < length tokens) (elim o as (λ _. List NamedSite) [ None ↦ unit_names most_turns (answers facts) (Tokens tokens) | Some fault ↦ filter is_used (unit_names most_turns (answers facts) (Tokens tokens)) ])
        by None = inside
        by (Some fault) = kept-each (λ (s : NamedSite). s.index < length tokens) is_used (unit_names most_turns (answers facts) (Tokens tokens)) inside
    placed-at facts (OfPragma tokens inside) sites are = (nameless (verdict_over facts (OfPragma tokens inside)).fault, stands (verdict_over facts (OfPragma tokens inside)).fault refl)
      where
        nameless : (o : Option Fault) → (elim o as (λ _. List NamedSite) [ None ↦ unit_names most_turns (answers facts) (OfPragma tokens inside) | Some fault ↦ filter is_used (unit_names most_turns (answers facts) (OfPragma tokens inside)) ]) ≡ []
        nameless None = refl
        nameless (Some fault) = refl

        stands : (o : Option Fault) → (verdict_over facts (OfPragma tokens inside)).fault ≡ o → closes (verdict_over facts (OfPragma tokens inside)).writes.step ≡ false
        stands None is =
            let s = spoken most_turns tokens inside (answers facts) is in
            ap (λ (v : Verdict). closes v.writes.step) s.is ∙ said-stands most_turns (answers facts) (scopes_in (answers facts Cursor)) s.pragma
        stands (Some fault) is = ap (λ (v : Verdict). closes v.writes.step) (refused-pragma most_turns tokens inside (answers facts) fault is)

    pub named-placed : (facts : List UnitFacts) (units : List RootUnit) → AllByRecursion IsSited units → AllByRecursion IsPlaced (named_after facts units)
    unfolding named_after
    named-placed facts [] are = tt
    named-placed facts (Spelled text sites ∷ units) are = (placed-at facts text sites are.0, named-placed (facts ++ (verdict_over facts text).writes ∷ []) units are.1)
    named-placed facts (Entered file inside ∷ units) are = named-placed (facts ++ boundary Enters ∷ []) units are.1
    named-placed facts (Left file inside ∷ units) are = named-placed (facts ++ boundary Leaves ∷ []) units are.1
    named-placed facts (End ∷ units) are = named-placed (facts ++ []) units are.1

    module _ (events : List Event) where
      abbrev declared_of : List NamedUnit → List PlacedName
      declared_of units = declared_until events units (ends_of units)

      abbrev HasPlace : List PlacedName → Listed → Type 0
      HasPlace names l = 0 < counted l.path names

      -- one unit more
      unit-listed : (facts : List UnitFacts) (text : UnitText) (sites : List Site) (units : List NamedUnit) (listed : List Listed) → AreSited text sites → AllByRecursion IsPlaced units
          → AllByRecursion (HasPlace (declared_of units)) listed
          → AllByRecursion (HasPlace (declared_of (named_over facts text sites ∷ units))) (listed_with text sites (first_paths (verdict_over facts text).writes.additions) ++ listed)
      unit-listed facts text sites units listed are placed more =
          let n = named_over facts text sites in
          let here = declared_in events n (end_before n.step n (closings_in units)) in
          let rest = declared_of units in
          let paths = first_paths (verdict_over facts text).writes.additions in
          let own : (path : List (List ℕ)) → IsIn path paths → 0 < counted path (here ++ rest) = λ path i.
          omega (arith, counted-append path here rest, unit-there events n (closings_in units) (placed-at facts text sites are) (closings-there events units placed) path (first-named facts text path i)) in
          both-lists (HasPlace (here ++ rest)) (listed_with text sites paths) listed
          (listed-all (λ path. 0 < counted path (here ++ rest)) text sites paths own)
          (weaker-list (HasPlace (here ++ rest)) (HasPlace rest) (λ l lt. omega (arith, counted-append l.path here rest, lt)) listed more)

      listed-there : (facts : List UnitFacts) (units : List RootUnit) → AllByRecursion IsSited units
          → AllByRecursion (HasPlace (declared_of (named_after facts units))) (flat_map listed_in (judged_after facts units))
      unfolding judged_after named_after
      listed-there facts [] are = tt
      listed-there facts (Spelled text sites ∷ units) are =
          let next = facts ++ (verdict_over facts text).writes ∷ [] in
          unit-listed facts text sites (named_after next units) (flat_map listed_in (judged_after next units)) are.0 (named-placed next units are.1) (listed-there next units are.1)
      listed-there facts (Entered file inside ∷ units) are = listed-there (facts ++ boundary Enters ∷ []) units are.1
      listed-there facts (Left file inside ∷ units) are = listed-there (facts ++ boundary Leaves ∷ []) units are.1
      listed-there facts (End ∷ units) are = listed-there (facts ++ []) units are.1

      -- ---- entries

      abbrev IsDeclared : DetailedEntry → Type 0
      IsDeclared entry = 0 < length entry.places

      entries-there : (facts : List UnitFacts) (names : List PlacedName) (listed : List Listed) → AllByRecursion (HasPlace names) listed
          → AllByRecursion IsDeclared (flat_map (listed_entries facts names) listed)
      entries-there facts names [] are = tt
      entries-there facts names (l ∷ listed) are =
          both-lists IsDeclared (listed_entries facts names l) (flat_map (listed_entries facts names) listed) (by (entity_in (answers facts (entity_key l.path)))) (entries-there facts names listed are.1)
        where
          by : (o : Option Entity) → AllByRecursion IsDeclared (elim o as (λ _. List DetailedEntry) [ None ↦ [] | Some e ↦ entry_of facts names l.path e ∷ [] ])
          by None = tt
          by (Some e) = (are.0, tt)

      pub details-placed : All (λ entry. 0 < length entry.places) (details events).entries
      unfolding details declared_names
      details-placed =
          let o : Outcome = outcome_of events in
          let names = declared_of (named_after [] (units_of events)) in
          All-from_recursion IsDeclared (flat_map (listed_entries o.facts names) o.listed) (entries-there o.facts names o.listed (listed-there [] (units_of events) (units-sited events)))
