-- What is wrong with a name at the end stands where the name is declared first.
use Rattle.std.proofs.Common.{◌≡◌, ◌≢◌, ◌⊎◌, ◌∙◌, ◌+◌, ◌-◌, ◌<◌, ℕ, Bool, true, false, cond, List, [], ◌∷◌, ◌++◌, Option, None, Some, append-nil, filter, flat_map, is_some, length, map, slice_get, refl, sym, ap, subst, inl, inr, if◌then◌else◌, arith}
use Rattle.std.proofs.lemmas.Bool.{false≢true}
use Rattle.std.proofs.lemmas.List.{map-append}
use Rattle.std.proofs.lemmas.List.Elements.{All-cons, All-from_recursion, All-nil, filter-append}
use Rattle.std.specs.Prelude.{All, Contains}
use Rattle.std.specs.Cmp.Lexicographic.{bytes_decides, pointwise_decides}
use Rattle.std.specs.List.{AllByRecursion}
use Rattle.std.specs.Option.{IsSome, option_map}
use Rattle.idl_root_blocks.specs.idl_check.walk.Judging.{IsSpoken}
use Rattle.idl_root_blocks.specs.idl_check.walk.Names.{declared_as, declared_paths, unit_names}
use Rattle.idl_root_blocks.specs.idl_check.walk.Placing.{faulty_step}
use Rattle.idl_root_blocks.specs.idl_check.walk.Verdict.{faulty, verdict, verdict_over}
use Rattle.idl_root_blocks.specs.idl_check.declared.walk.names.NamedSite.{NamedSite}
use Rattle.idl_root_blocks.specs.idl_check.declared.walk.names.NameRole.{NameRole}
use Rattle.idl_root_blocks.specs.idl_check.declared.walk.names.NameRole.TheVariants.{Declared, Used}
use Rattle.idl_entity.specs.Kind.{kind_eq, same_stage, stage_eq}
use Rattle.idl_entity.specs.Path.{name_of, path_eq, same_path, scope_of}
use Rattle.idl_entity.specs.declared.entity.Entity.{Entity}
use Rattle.idl_entity.specs.declared.identity.Prefix.{Prefix}
use Rattle.idl_entity.specs.declared.kind.Kind.TheVariants.{Interface}
use Rattle.idl_entity.specs.declared.kind.Stage.TheVariants.{Ahead}
use Rattle.idl_env.proofs.AnswerLaws.CountLemmas.{world-push}
use Rattle.idl_env.proofs.Membership.{Contains-IsIn, IsIn}
use Rattle.idl_env.proofs.StoppedLemmas.{declared-unstopped}
use Rattle.idl_env.specs.Facts.{UnitFacts, World, addition_at, after, after_closing, after_step, answer_of, answers, boundary, closed, entity_in, entity_key, key_of, over, scopes_in, with_additions, world}
use Rattle.idl_env.specs.Turns.{most_turns}
use Rattle.idl_env.specs.keys.Key.{key_eq}
use Rattle.idl_env.specs.declared.additions.addition.Addition.{Addition}
use Rattle.idl_env.specs.declared.additions.addition.Addition.TheVariants.{Appears, Declares, Identifies, TypePrefixes, Uses, UsesFurther}
use Rattle.idl_env.specs.declared.additions.addition.Step.{Step}
use Rattle.idl_env.specs.declared.additions.addition.Step.TheVariants.{Closes, Enters, Leaves, Opens, OpensNameless, Prefixes, Stays}
use Rattle.idl_env.specs.declared.answering.answer.Answer.{Answer}
use Rattle.idl_env.specs.declared.answering.answer.Answer.TheVariants.{Known}
use Rattle.idl_env.specs.declared.answering.answer.Scope.{Scope}
use Rattle.idl_env.specs.declared.keys.key.Key.{Key}
use Rattle.idl_env.specs.declared.keys.key.Key.TheVariants.{Cursor}
use Rattle.idl_event.specs.Apart.{place_in}
use Rattle.idl_event.specs.declared.told.event.Event.{Event}
use Rattle.idl_event.specs.declared.told.site.Site.{Site}
use Rattle.idl_fault.specs.declared.code.Code.{Code}
use Rattle.idl_fault.specs.declared.code.Code.TheVariants.{InterfaceNeverDefined, NeverDefined}
use Rattle.idl_lex.specs.kinds.Keywords.{folded}
use Rattle.idl_lex.specs.tokens.Tokens.{Token}
use Rattle.idl_memo.specs.Query.{outcome}
use Rattle.idl_repo.specs.Entry.{closing_fault, entry, no_entry}
use Rattle.idl_repo.specs.Pieces.{text_over}
use Rattle.idl_repo.specs.Row.{row_pieces}
use Rattle.idl_repo.specs.declared.entry.Entry.{Entry}
use Rattle.idl_root.proofs.PlacedLemmas.{IsPlaced, both-lists, closings-there, end-there, faulty-none, first-in, first-named, first-token, last-token, named-placed, weaker-list}
use Rattle.idl_root.proofs.ToldLemmas.{AreSited, IsSited, item-there, units-sited}
use Rattle.idl_root.specs.Closing.{ClosesAtFirst, StandsAtFirst}
use Rattle.idl_root.specs.Compile.{Outcome, outcome_of}
use Rattle.idl_finding.specs.Findings.{fault_finding, finding_at, numbered, site_of, tokens_of}
use Rattle.idl_root.specs.Judged.{facts_after, judged_after}
use Rattle.idl_root.specs.Named.{NamedUnit, closings_in, end_before, ends_of, is_used, named_after, named_over, names_over}
use Rattle.idl_root.specs.NamePlaces.{declared_by, declared_in, declared_names, declared_until, declared_with, is_at, last_in, places_at, sited, sited_in}
use Rattle.idl_finding.specs.Number.{token_number}
use Rattle.idl_root.specs.Printed.{Listed, entry_over, first_paths, listed_in, listed_with, name_index}
use Rattle.idl_finding.specs.declared.finding.EventFinding.{EventFinding}
use Rattle.idl_root.specs.declared.compiling.places.PlacedName.{PlacedName}
use Rattle.idl_root.specs.declared.compiling.places.DeclaredPlace.{DeclaredPlace}
use Rattle.idl_root.specs.declared.compiling.places.SitedToken.{SitedToken}
use Rattle.idl_scope.proofs.Constructors.{none_some, some_same}
use Rattle.idl_scope.proofs.Worlds.{addition_at-Some}
use Rattle.idl_unit.specs.TokenRules.{fault_at}
use Rattle.idl_unit.specs.Units.{units_of}
use Rattle.idl_unit.specs.declared.fault.Fault.{Fault}
use Rattle.idl_unit.specs.declared.unit.Unit.{Unit as RootUnit}
use Rattle.idl_unit.specs.declared.unit.Unit.TheVariants.{Spelled, Entered, Left, End}
use Rattle.idl_unit.specs.declared.unit.UnitText.{UnitText}
use Rattle.idl_unit.specs.declared.unit.UnitText.TheVariants.{Tokens, Pragma as OfPragma}

-- ---- what is declared at a path, fact after fact

abbrev at : List UnitFacts → List (List ℕ) → Option Entity
at facts path = entity_in (answers facts (entity_key path))

abbrev over_at : List UnitFacts → List Addition → List (List ℕ) → Option Entity
over_at facts additions path = entity_in (over additions (entity_key path) (answers facts (entity_key path)))

-- it stays as it is, or is further than ahead
abbrev IsOn : Option Entity → Option Entity → Type 0
IsOn before after = (after ≡ before) ⊎ ((e : Entity) × (after ≡ Some e) × (e.stage ≢ Ahead))

module _ (path : List (List ℕ)) where
  closing-on : (w : World) (b : Bool) (o : Option Entity) (before : Option Answer)
      → IsOn (entity_in before) (entity_in (over (cond b (elim o as (λ _. List Addition) [ None ↦ [] | Some e ↦ Declares (closed w e) ∷ [] ]) []) (entity_key path) before))
  closing-on w false o before = inl refl
  closing-on w true None before = inl refl
  closing-on w true (Some e) before = by (key_eq (entity_key path) (entity_key e.path))
    where
      by : (t : Bool) → IsOn (entity_in before) (entity_in (elim (cond t (Some (Declares (closed w e))) None) as (λ _. Option Answer) [ None ↦ before | Some a ↦ Some (answer_of a) ]))
      by true = inr (closed w e, refl, λ z. cc)
      by false = inl refl

  after-closing-on : (w : World) (scopes : List Scope) → IsOn (entity_in (w.answers (entity_key path))) (entity_in ((after_closing w scopes).answers (entity_key path)))
  after-closing-on w [] = inl refl
  after-closing-on w (s ∷ []) = inl refl
  after-closing-on w (s ∷ t ∷ outer) = closing-on w (kind_eq s.kind Interface) (entity_in (w.answers (entity_key s.path))) (w.answers (entity_key path))

  step-on : (w : World) (step : Step) → IsOn (entity_in (w.answers (entity_key path))) (entity_in ((after_step w step).answers (entity_key path)))
  step-on w Stays = inl refl
  step-on w (Opens p kind) = inl refl
  step-on w (OpensNameless kind) = inl refl
  step-on w Closes = after-closing-on w (scopes_in (w.answers Cursor))
  step-on w (Prefixes text) = inl refl
  step-on w Enters = inl refl
  step-on w Leaves = inl refl

  -- behind what a unit adds
  push-on : (facts : List UnitFacts) (f : UnitFacts) → IsOn (over_at facts f.additions path) (at (facts ++ f ∷ []) path)
  push-on facts f =
      let w = world facts in
      subst (λ (u : World). IsOn (over_at facts f.additions path) (entity_in (u.answers (entity_key path)))) (sym (world-push facts f))
      (subst (λ (o : Option Answer). IsOn (entity_in o) (entity_in ((after w f).answers (entity_key path)))) (declared-unstopped w.answers (folded (name_of path)) (scope_of path) f.additions (w.answers (entity_key path)))
      (step-on (with_additions f.additions w) f.step))

  -- what stands there over additions was there, or is one of them
  abbrev IsOf : List Addition → Option Answer → Type 0
  IsOf additions before =
      (over additions (entity_key path) before ≡ before)
      ⊎ ((e : Entity) × IsIn (Declares e) additions × (entity_key path ≡ entity_key e.path) × (over additions (entity_key path) before ≡ Some (Known e)))

  over-of : (additions : List Addition) (before : Option Answer) → IsOf additions before
  over-of additions before = by (addition_at additions (entity_key path)) refl
    where
      told : Option Addition → Option Answer
      told o = elim o as (λ _. Option Answer) [ None ↦ before | Some a ↦ Some (answer_of a) ]

      by : (o : Option Addition) → addition_at additions (entity_key path) ≡ o → IsOf additions before
      by None is = inl (ap told is)
      by (Some (Declares e)) is = let r = addition_at-Some additions (entity_key path) (Declares e) is in inr (e, r.0, r.1, ap told is)
      by (Some (Uses n q body)) is = let r : entity_key path ≡ key_of (Uses n q body) = (addition_at-Some additions (entity_key path) (Uses n q body) is).1 in cc
      by (Some (UsesFurther n q further)) is = let r : entity_key path ≡ key_of (UsesFurther n q further) = (addition_at-Some additions (entity_key path) (UsesFurther n q further) is).1 in cc
      by (Some (Appears q prefix)) is = let r : entity_key path ≡ key_of (Appears q prefix) = (addition_at-Some additions (entity_key path) (Appears q prefix) is).1 in cc
      by (Some (Identifies q identity)) is = let r : entity_key path ≡ key_of (Identifies q identity) = (addition_at-Some additions (entity_key path) (Identifies q identity) is).1 in cc
      by (Some (TypePrefixes q text)) is = let r : entity_key path ≡ key_of (TypePrefixes q text) = (addition_at-Some additions (entity_key path) (TypePrefixes q text) is).1 in cc

  on-known : (before after : Option Entity) → IsOn before after → IsSome before → IsSome after
  on-known before after (inl same) h = subst IsSome (sym same) h
  on-known before after (inr e) h = ap is_some e.1

  over-known : (facts : List UnitFacts) (additions : List Addition) → IsSome (at facts path) → IsSome (over_at facts additions path)
  over-known facts additions h = by (over-of additions (answers facts (entity_key path)))
    where
      by : IsOf additions (answers facts (entity_key path)) → IsSome (over_at facts additions path)
      by (inl same) = subst (λ (o : Option Answer). IsSome (entity_in o)) (sym same) h
      by (inr e) = ap (λ (o : Option Answer). is_some (entity_in o)) e.3

  -- what is known stays so
  known-on : (facts : List UnitFacts) (f : UnitFacts) → IsSome (over_at facts f.additions path) → IsSome (at (facts ++ f ∷ []) path)
  known-on facts f h = on-known (over_at facts f.additions path) (at (facts ++ f ∷ []) path) (push-on facts f) h

  known-push : (facts : List UnitFacts) (f : UnitFacts) → IsSome (at facts path) → IsSome (at (facts ++ f ∷ []) path)
  known-push facts f h = known-on facts f (over-known facts f.additions h)

  unknown-before : (facts : List UnitFacts) (f : UnitFacts) → at (facts ++ f ∷ []) path ≡ None → at facts path ≡ None
  unknown-before facts f none = by (at facts path) refl
    where
      by : (o : Option Entity) → at facts path ≡ o → o ≡ None
      by None is = refl
      by (Some e) is = absurd (false≢true (sym (ap is_some none) ∙ known-push facts f (ap is_some is)))

  -- what is ahead was so before, or is added
  ahead-before : (facts : List UnitFacts) (f : UnitFacts) (d : Entity) → at (facts ++ f ∷ []) path ≡ Some d → d.stage ≡ Ahead
      → (at facts path ≡ Some d) ⊎ (IsIn (Declares d) f.additions × (entity_key path ≡ entity_key d.path))
  ahead-before facts f d is ahead = by_on (push-on facts f)
    where
      by_over : IsOf f.additions (answers facts (entity_key path)) → over_at facts f.additions path ≡ Some d → (at facts path ≡ Some d) ⊎ (IsIn (Declares d) f.additions × (entity_key path ≡ entity_key d.path))
      by_over (inl same) h = inl (sym (ap entity_in same) ∙ h)
      by_over (inr e) h =
          let one : e.0 ≡ d = some_same (sym (ap entity_in e.3) ∙ h) in
          inr (subst (λ (x : Entity). IsIn (Declares x) f.additions × (entity_key path ≡ entity_key x.path)) one (e.1, e.2))

      by_on : IsOn (over_at facts f.additions path) (at (facts ++ f ∷ []) path) → (at facts path ≡ Some d) ⊎ (IsIn (Declares d) f.additions × (entity_key path ≡ entity_key d.path))
      by_on (inl same) = by_over (over-of f.additions (answers facts (entity_key path))) (sym same ∙ is)
      by_on (inr e) = absurd (e.2 (ap (λ (x : Entity). x.stage) (some_same (sym e.1 ∙ is)) ∙ ahead))

-- ---- names of a unit under a path

places-append : (path : List (List ℕ)) (xs ys : List PlacedName) → places_at path (xs ++ ys) ≡ places_at path xs ++ places_at path ys
places-append path xs ys =
    ap (λ (ns : List PlacedName). map (λ (n : PlacedName). n.place) ns) (filter-append (is_at path) xs ys)
    ∙ map-append (λ (n : PlacedName). n.place) (filter (is_at path) xs) (filter (is_at path) ys)

module _ (events : List Event) (n end : NamedUnit) (path : List (List ℕ)) where
  other-none : (p : List (List ℕ)) (name begin last : Option SitedToken) → (p ≡ path → ⊥) → places_at path (declared_with p name begin last) ≡ []
  other-none p (Some name) (Some begin) (Some last) other = by (path_eq path p) refl
    where
      by : (b : Bool) → path_eq path p ≡ b
          → map (λ (x : PlacedName). x.place) (if b then record { path = p; place = record { name = name; first = begin; last = last } } ∷ [] else []) ≡ []
      by true is = absurd (other (sym (same_path path p is)))
      by false is = refl
  other-none p (Some name) (Some begin) None other = refl
  other-none p (Some name) None last other = refl
  other-none p None begin last other = refl

  -- a unit that doesn't declare the path has no place of it
  undeclared-none : (names : List NamedSite) → (IsIn path (declared_paths names) → ⊥) → places_at path (flat_map (declared_by events n end) names) ≡ []
  undeclared-none [] other = refl
  undeclared-none (s ∷ names) other = by s.role (λ i. other i) (undeclared-none names)
    where
      declared_so : NameRole → List PlacedName
      declared_so role =
          elim role as (λ _. List PlacedName) [ Declared ↦ declared_with s.path (sited_in events n s.index) (sited_in events n 0) (last_in events end) | Used ↦ [] ]

      by : (role : NameRole) → (IsIn path (declared_as role s.path ++ declared_paths names) → ⊥) → ((IsIn path (declared_paths names) → ⊥) → places_at path (flat_map (declared_by events n end) names) ≡ [])
          → places_at path (declared_so role ++ flat_map (declared_by events n end) names) ≡ []
      by Declared none more =
          let here = declared_with s.path (sited_in events n s.index) (sited_in events n 0) (last_in events end) in
          let rest = flat_map (declared_by events n end) names in
          places-append path here rest ∙ ap (λ ps. ps ++ places_at path rest) (other-none s.path (sited_in events n s.index) (sited_in events n 0) (last_in events end) (λ e. none (inl e))) ∙ more (λ i. none (inr i))
      by Used none more = more (λ i. none i)

  -- one of which this is the only name has one
  own-place : (i : ℕ) (names : List NamedSite) → names ≡ record { index = i; role = Declared; path = path } ∷ [] → (name begin last : SitedToken) → sited_in events n i ≡ Some name → sited_in events n 0 ≡ Some begin
      → last_in events end ≡ Some last → places_at path (flat_map (declared_by events n end) names) ≡ record { name = name; first = begin; last = last } ∷ []
  own-place i names is name begin last at_name at_begin at_last =
      ap (λ ns. places_at path (flat_map (declared_by events n end) ns)) is
      ∙ (λ k. places_at path (declared_with path (at_name k) (at_begin k) (at_last k) ++ []))
      ∙ ap (λ (b : Bool). map (λ (x : PlacedName). x.place) (if b then record { path = path; place = record { name = name; first = begin; last = last } } ∷ [] else []))
      ((pointwise_decides bytes_decides path path).1 refl)

-- ---- what is wrong at the end

abbrev code_if : Entity → Bool → Option Code
code_if e b = if b then Some (if kind_eq e.kind Interface then InterfaceNeverDefined else NeverDefined) else None

stage-code : (e : Entity) → (closing_fault e ≡ None) ⊎ ((e.stage ≡ Ahead) × ((c : Code) × (closing_fault e ≡ Some c)))
stage-code e = by (stage_eq e.stage Ahead) refl
  where
    by : (b : Bool) → stage_eq e.stage Ahead ≡ b → (code_if e b ≡ None) ⊎ ((e.stage ≡ Ahead) × ((c : Code) × (code_if e b ≡ Some c)))
    by true is = inr (same_stage e.stage Ahead is, (if kind_eq e.kind Interface then InterfaceNeverDefined else NeverDefined, refl))
    by false is = inl refl

-- its token, and the first of its places, which is there
record Begins (events : List Event) (l : Listed) (names : List PlacedName) : Type 0 where
  site : Site
  token : Token
  begin : SitedToken
  last : SitedToken
  more : List DeclaredPlace
  sited_at : site_of l.text l.sites (name_index l.text) ≡ Some site
  token_at : slice_get (tokens_of l.text) (name_index l.text) ≡ Some token
  places :
      places_at l.path names
      ≡ record { name = record { place = place_in site; number = token_number events site.event; text = token }; first = begin; last = last } ∷ more

-- the same with more of them before, none of which is under the path
begins-behind : (events : List Event) (l : Listed) (here names : List PlacedName) → places_at l.path here ≡ [] → Begins events l names → Begins events l (here ++ names)
begins-behind events l here names none b = record {
  site = b.site;
  token = b.token;
  begin = b.begin;
  last = b.last;
  more = b.more;
  sited_at = b.sited_at;
  token_at = b.token_at;
  places = places-append l.path here names ∙ ap (λ ps. ps ++ places_at l.path names) none ∙ b.places;
}

-- names that are used declare nothing
used-declare-none : (names : List NamedSite) → declared_paths (filter is_used names) ≡ []
used-declare-none [] = refl
used-declare-none (n ∷ names) = by n.role refl (used-declare-none names)
  where
    uses : List NamedSite
    uses = filter is_used names

    by : (role : NameRole) → n.role ≡ role → declared_paths uses ≡ [] → declared_paths (cond (is_used n) (n ∷ uses) uses) ≡ []
    by Declared is rest = ap (λ r. declared_paths (cond (elim r [ Declared ↦ false | Used ↦ true ]) (n ∷ uses) uses)) is ∙ rest
    by Used is rest =
        ap (λ r. declared_paths (cond (elim r [ Declared ↦ false | Used ↦ true ]) (n ∷ uses) uses)) is ∙ ap (λ r. declared_as r n.path ++ declared_paths uses) is ∙ rest

listed-each : (P : Listed → Type 0) (text : UnitText) (sites : List Site) (paths : List (List (List ℕ))) → ((path : List (List ℕ)) → IsIn path paths → P (record { path = path; text = text; sites = sites }))
    → AllByRecursion P (listed_with text sites paths)
listed-each P text sites [] each = tt
listed-each P text sites (path ∷ paths) each = (each path (inl refl), listed-each P text sites paths (λ p i. each p (inr i)))

some-token : {X : Type 0} (xs : List X) → xs ≢ [] → length xs - 2 < length xs
some-token [] h = absurd (h refl)
some-token (x ∷ xs) h = omega arith

-- by the laws of names, of verdicts and of the listing
module _
    (appearing : (turns : ℕ) (text : UnitText) (answers : Key → Option Answer) (path : List (List ℕ)) (prefix : Prefix)
    → Contains (outcome (verdict turns text) answers).writes.additions (Appears path prefix) → Contains (declared_paths (unit_names turns answers text)) path)
    (within : (turns : ℕ) (tokens : List Token) (answers : Key → Option Answer) → All (λ n. n.index < length tokens) (unit_names turns answers (Tokens tokens)))
    (refused : (turns : ℕ) (tokens : List Token) (answers : Key → Option Answer) (fault : Fault)
    → (outcome (verdict turns (Tokens tokens)) answers).fault ≡ Some fault → outcome (verdict turns (Tokens tokens)) answers ≡ faulty fault (faulty_step tokens))
    (refused-pragma : (turns : ℕ) (tokens : List Token) (inside : Bool) (answers : Key → Option Answer) (fault : Fault)
    → (outcome (verdict turns (OfPragma tokens inside)) answers).fault ≡ Some fault → outcome (verdict turns (OfPragma tokens inside)) answers ≡ faulty fault Stays)
    (spoken : (turns : ℕ) (tokens : List Token) (inside : Bool) (answers : Key → Option Answer)
    → (outcome (verdict turns (OfPragma tokens inside)) answers).fault ≡ None → IsSpoken turns answers tokens inside (outcome (verdict turns (OfPragma tokens inside)) answers))
    (known : (turns : ℕ) (text : UnitText) (answers : Key → Option Answer) (path : List (List ℕ)) → (outcome (verdict turns text) answers).fault ≡ None
    → Contains (declared_paths (unit_names turns answers text)) path → IsSome (entity_in (over (outcome (verdict turns text) answers).writes.additions (entity_key path) (answers (entity_key path)))))
    (fresh : (turns : ℕ) (text : UnitText) (answers : Key → Option Answer) (path : List (List ℕ)) (prefix : Prefix)
    → Contains (outcome (verdict turns text) answers).writes.additions (Appears path prefix) → entity_in (answers (entity_key path)) ≡ None)
    (ahead : (turns : ℕ) (tokens : List Token) (answers : Key → Option Answer) (e : Entity) → Contains (outcome (verdict turns (Tokens tokens)) answers).writes.additions (Declares e) → e.stage ≡ Ahead
    → (unit_names turns answers (Tokens tokens) ≡ record { index = length tokens - 2; role = Declared; path = e.path } ∷ []) × (entity_in (answers (entity_key e.path)) ≡ None))
    (undeclared : (turns : ℕ) (tokens : List Token) (inside : Bool) (answers : Key → Option Answer) (e : Entity) → Contains (outcome (verdict turns (OfPragma tokens inside)) answers).writes.additions (Declares e) → ⊥)
    (declared : (path : List (List ℕ)) (bank : Key → Option Answer) (e : Entity) → entity_in (bank (entity_key path)) ≡ Some e
    → outcome (entry path) bank ≡ record { row = Some (text_over bank (row_pieces e)); fault = closing_fault e })
    (unknown : (path : List (List ℕ)) (bank : Key → Option Answer) → entity_in (bank (entity_key path)) ≡ None → outcome (entry path) bank ≡ no_entry)
  where
    -- ---- a finding of the end

    abbrev Told : List Event → List PlacedName → Listed → Option Code → Type 0
    Told events names l o = All (λ f. StandsAtFirst (places_at l.path names) (numbered events f)) (fault_finding l.text l.sites (option_map (fault_at (name_index l.text)) o))

    told-one : (events : List Event) (names : List PlacedName) (l : Listed) (c : Code) → Begins events l names → Told events names l (Some c)
    told-one events names l c b =
        let f : EventFinding = record { event = b.site.event; place = place_in b.site; code = c; text = Some b.token } in
        let here : StandsAtFirst (places_at l.path names) (numbered events f) = subst (λ ps. StandsAtFirst ps (numbered events f)) (sym b.places) (refl, refl, refl) in
        let one = All-cons (λ f. StandsAtFirst (places_at l.path names) (numbered events f)) f [] here (All-nil (λ f. StandsAtFirst (places_at l.path names) (numbered events f))) in
        subst (λ (s : Option Site). All (λ f. StandsAtFirst (places_at l.path names) (numbered events f)) (finding_at c s (slice_get (tokens_of l.text) (name_index l.text)))) (sym b.sited_at)
        (subst (λ (t : Option Token). All (λ f. StandsAtFirst (places_at l.path names) (numbered events f)) (finding_at c (Some b.site) t)) (sym b.token_at) one)

    closes-first : (events : List Event) (facts : List UnitFacts) (names : List PlacedName) (l : Listed) → ((d : Entity) → at facts l.path ≡ Some d → d.stage ≡ Ahead → Begins events l names)
        → ClosesAtFirst events facts names l
    closes-first events facts names l begins = by (at facts l.path) refl
      where
        nothing : Told events names l None
        nothing = All-nil (λ f. StandsAtFirst (places_at l.path names) (numbered events f))

        by_stage : (d : Entity) → at facts l.path ≡ Some d → (closing_fault d ≡ None) ⊎ ((d.stage ≡ Ahead) × ((c : Code) × (closing_fault d ≡ Some c))) → Told events names l (entry_over facts l.path).fault
        by_stage d is (inl none) = subst (Told events names l) (sym (ap (λ (x : Entry). x.fault) (declared l.path (answers facts) d is) ∙ none)) nothing
        by_stage d is (inr so) =
            subst (Told events names l) (sym (ap (λ (x : Entry). x.fault) (declared l.path (answers facts) d is) ∙ so.1.1)) (told-one events names l so.1.0 (begins d is so.0))

        by : (o : Option Entity) → at facts l.path ≡ o → Told events names l (entry_over facts l.path).fault
        by None is = subst (Told events names l) (sym (ap (λ (x : Entry). x.fault) (unknown l.path (answers facts) is))) nothing
        by (Some d) is = by_stage d is (stage-code d)

    -- ---- what a unit adds

    abbrev writes : List UnitFacts → UnitText → UnitFacts
    writes facts text = (verdict_over facts text).writes

    declared-known : (facts : List UnitFacts) (text : UnitText) (path : List (List ℕ)) → IsIn path (declared_paths (names_over facts text)) → IsSome (at (facts ++ writes facts text ∷ []) path)
    declared-known facts text path i = by (verdict_over facts text).fault refl i
      where
        by : (o : Option Fault) → (verdict_over facts text).fault ≡ o
            → IsIn path (declared_paths (elim o as (λ _. List NamedSite) [ None ↦ unit_names most_turns (answers facts) text | Some fault ↦ filter is_used (unit_names most_turns (answers facts) text) ])) → IsSome (at (facts ++ writes facts text ∷ []) path)
        by None is i = known-on path facts (writes facts text) (known most_turns text (answers facts) path is (Contains-IsIn path (declared_paths (unit_names most_turns (answers facts) text)) i))
        by (Some fault) is i = absurd (subst (IsIn path) (used-declare-none (unit_names most_turns (answers facts) text)) i)

    -- what is added ahead was not there
    abbrev AreNew : List UnitFacts → UnitFacts → Type 0
    AreNew facts f = (x : Entity) → IsIn (Declares x) f.additions → x.stage ≡ Ahead → at facts x.path ≡ None

    unit-new : (facts : List UnitFacts) (text : UnitText) → AreNew facts (writes facts text)
    unit-new facts (Tokens tokens) x i h = (ahead most_turns tokens (answers facts) x (Contains-IsIn (Declares x) (writes facts (Tokens tokens)).additions i) h).1
    unit-new facts (OfPragma tokens inside) x i h = absurd (undeclared most_turns tokens inside (answers facts) x (Contains-IsIn (Declares x) (writes facts (OfPragma tokens inside)).additions i))

    -- what was there before facts and is ahead behind them was ahead
    still-ahead : (facts : List UnitFacts) (f : UnitFacts) (path : List (List ℕ)) → AreNew facts f → IsSome (at facts path) → (d : Entity) → at (facts ++ f ∷ []) path ≡ Some d → d.stage ≡ Ahead → at facts path ≡ Some d
    still-ahead facts f path new some d is h = by (ahead-before path facts f d is h)
      where
        by : (at facts path ≡ Some d) ⊎ (IsIn (Declares d) f.additions × (entity_key path ≡ entity_key d.path)) → at facts path ≡ Some d
        by (inl was) = was
        by (inr e) = absurd (false≢true (sym (ap is_some (ap (λ (k : Key). entity_in (answers facts k)) e.1 ∙ new d e.0 h)) ∙ some))

    end-ahead : (units : List RootUnit) (facts : List UnitFacts) (path : List (List ℕ)) → IsSome (at facts path) → (d : Entity) → at (facts_after facts units) path ≡ Some d → d.stage ≡ Ahead → at facts path ≡ Some d
    unfolding facts_after
    end-ahead [] facts path some d is h = is
    end-ahead (Spelled text sites ∷ units) facts path some d is h =
        let f = writes facts text in
        still-ahead facts f path (unit-new facts text) some d (end-ahead units (facts ++ f ∷ []) path (known-push path facts f some) d is h) h
    end-ahead (Entered file inside ∷ units) facts path some d is h =
        let f = boundary Enters in
        still-ahead facts f path (λ x i. absurd i) some d (end-ahead units (facts ++ f ∷ []) path (known-push path facts f some) d is h) h
    end-ahead (Left file inside ∷ units) facts path some d is h =
        let f = boundary Leaves in
        still-ahead facts f path (λ x i. absurd i) some d (end-ahead units (facts ++ f ∷ []) path (known-push path facts f some) d is h) h
    end-ahead (End ∷ units) facts path some d is h =
        subst (λ fs. at fs path ≡ Some d) (append-nil facts) (end-ahead units (facts ++ []) path (subst (λ fs. IsSome (at fs path)) (sym (append-nil facts)) some) d is h)

    first-fresh : (facts : List UnitFacts) (text : UnitText) (path : List (List ℕ)) → IsIn path (first_paths (writes facts text).additions) → at facts path ≡ None
    first-fresh facts text path i =
        let found = first-in path (writes facts text).additions i in
        fresh most_turns text (answers facts) path found.0 (Contains-IsIn (Appears path found.0) (writes facts text).additions found.1)

    -- ---- a unit that declares a name first

    module _ (events : List Event) where
      abbrev names_of : List NamedUnit → List PlacedName
      names_of units = declared_until events units (ends_of units)

      module _ (facts : List UnitFacts) (sites : List Site) (rest : List NamedUnit) (path : List (List ℕ)) (d : Entity) (placed : AllByRecursion IsPlaced rest) where
        -- one that is ahead behind it
        tokens-begin : (tokens : List Token) → AreSited (Tokens tokens) sites → IsIn path (first_paths (writes facts (Tokens tokens)).additions) → IsIn (Declares d) (writes facts (Tokens tokens)).additions → d.stage ≡ Ahead
            → Begins events (record { path = path; text = Tokens tokens; sites = sites }) (names_of (named_over facts (Tokens tokens) sites ∷ rest))
        tokens-begin tokens are i has h =
            let n = named_over facts (Tokens tokens) sites in
            let end = end_before n.step n (closings_in rest) in
            let index = length tokens - 2 in
            let lt = some-token tokens are.0 in
            let site = item-there sites index (omega (arith, are.1, lt)) in
            let token = item-there tokens index lt in
            let begin = first-token events tokens sites are in
            let last = end-there events n (closings_in rest) (last-token events tokens sites are) (closings-there events rest placed) in
            let name : SitedToken = record { place = place_in site.0; number = token_number events site.0.event; text = token.0 } in
            record {
              site = site.0;
              token = token.0;
              begin = begin.0;
              last = last.0;
              more = places_at path (names_of rest);
              sited_at = site.1;
              token_at = token.1;
              places =
                  places-append path (declared_in events n end) (names_of rest)
                  ∙ ap (λ ps. ps ++ places_at path (names_of rest)) (own-place events n end path index n.names own name begin.0 last.0 (λ k. sited events (site.1 k) (token.1 k)) begin.1 last.1);
            }
          where
            said : (unit_names most_turns (answers facts) (Tokens tokens) ≡ record { index = length tokens - 2; role = Declared; path = d.path } ∷ []) × (entity_in (answers facts (entity_key d.path)) ≡ None)
            said = ahead most_turns tokens (answers facts) d (Contains-IsIn (Declares d) (writes facts (Tokens tokens)).additions has) h

            all : (o : Option Fault) → (verdict_over facts (Tokens tokens)).fault ≡ o
                → (elim o as (λ _. List NamedSite) [ None ↦ unit_names most_turns (answers facts) (Tokens tokens) | Some fault ↦ filter is_used (unit_names most_turns (answers facts) (Tokens tokens)) ]) ≡ record { index = length tokens - 2; role = Declared; path = d.path } ∷ []
            all None is = said.0
            all (Some fault) is = absurd (subst (λ (more : List Addition). IsIn (Declares d) more) (faulty-none appearing within refused refused-pragma spoken facts (Tokens tokens) fault is) has)

            names : names_over facts (Tokens tokens) ≡ record { index = length tokens - 2; role = Declared; path = d.path } ∷ []
            names = all (verdict_over facts (Tokens tokens)).fault refl

            only : IsIn path (d.path ∷ []) → d.path ≡ path
            only (inl e) = e
            only (inr i) = absurd i

            own : names_over facts (Tokens tokens) ≡ record { index = length tokens - 2; role = Declared; path = path } ∷ []
            own =
                names
                ∙ ap (λ p. record { index = length tokens - 2; role = Declared; path = p } ∷ [])
                (only (subst (λ ns. IsIn path (declared_paths ns)) names (first-named appearing within refused refused-pragma spoken facts (Tokens tokens) path i)))

        unit-begins : (text : UnitText) → AreSited text sites → IsIn path (first_paths (writes facts text).additions) → at (facts ++ writes facts text ∷ []) path ≡ Some d → d.stage ≡ Ahead
            → Begins events (record { path = path; text = text; sites = sites }) (names_of (named_over facts text sites ∷ rest))
        unit-begins text are i is h = by text are i (ahead-before path facts (writes facts text) d is h)
          where
            by : (text : UnitText) → AreSited text sites → IsIn path (first_paths (writes facts text).additions) → (at facts path ≡ Some d) ⊎ (IsIn (Declares d) (writes facts text).additions × (entity_key path ≡ entity_key d.path))
                → Begins events (record { path = path; text = text; sites = sites }) (names_of (named_over facts text sites ∷ rest))
            by text are i (inl was) = absurd (none_some (sym (first-fresh facts text path i) ∙ was))
            by (Tokens tokens) are i (inr e) = tokens-begin tokens are i e.0 h
            by (OfPragma tokens inside) are i (inr e) = absurd (undeclared most_turns tokens inside (answers facts) d (Contains-IsIn (Declares d) (writes facts (OfPragma tokens inside)).additions e.0))

      -- ---- all units

      -- a name is new over these facts, and if it is ahead over all, it stands first among these
      abbrev IsGood : List UnitFacts → List UnitFacts → List PlacedName → Listed → Type 0
      IsGood last facts names l = (at facts l.path ≡ None) × ((d : Entity) → at last l.path ≡ Some d → d.stage ≡ Ahead → Begins events l names)

      -- behind a file boundary nothing else is there
      beside : (f : UnitFacts) (units : List RootUnit) (facts : List UnitFacts) → (let next = facts ++ f ∷ [] in AllByRecursion (IsGood (facts_after next units) next (names_of (named_after next units))) (flat_map listed_in (judged_after next units)))
          → (let next = facts ++ f ∷ [] in AllByRecursion (IsGood (facts_after next units) facts (names_of (named_after next units))) (flat_map listed_in (judged_after next units)))
      beside f units facts more =
          let next = facts ++ f ∷ [] in
          let names = names_of (named_after next units) in
          weaker-list (IsGood (facts_after next units) facts names) (IsGood (facts_after next units) next names) (λ l good. (unknown-before l.path facts f good.0, good.1))
          (flat_map listed_in (judged_after next units)) more

      listed-good : (units : List RootUnit) (facts : List UnitFacts) → AllByRecursion IsSited units
          → AllByRecursion (IsGood (facts_after facts units) facts (names_of (named_after facts units))) (flat_map listed_in (judged_after facts units))
      unfolding judged_after named_after facts_after
      listed-good [] facts are = tt
      listed-good (Spelled text sites ∷ units) facts are =
          let f = writes facts text in
          let next = facts ++ f ∷ [] in
          let n = named_over facts text sites in
          let rest = named_after next units in
          let here = declared_in events n (end_before n.step n (closings_in rest)) in
          let all = facts_after next units in
          let paths = first_paths f.additions in
          let placed = named-placed appearing within refused refused-pragma spoken next units are.1 in
          let own : (path : List (List ℕ)) → IsIn path paths → IsGood all facts (here ++ names_of rest) (record { path = path; text = text; sites = sites }) = λ path i. (
            first-fresh facts text path i,
            λ d is h. unit-begins facts sites rest path d placed text are.0 i
                (end-ahead units next path (declared-known facts text path (first-named appearing within refused refused-pragma spoken facts text path i)) d is h) h,
          ) in
          let later : (l : Listed) → IsGood all next (names_of rest) l → IsGood all facts (here ++ names_of rest) l = λ l good. (
            unknown-before l.path facts f good.0,
            λ d is h. begins-behind events l here (names_of rest)
                (undeclared-none events n (end_before n.step n (closings_in rest)) l.path n.names (λ i. false≢true (sym (ap is_some good.0) ∙ declared-known facts text l.path i)))
                (good.1 d is h),
          ) in
          both-lists (IsGood all facts (here ++ names_of rest)) (listed_with text sites paths) (flat_map listed_in (judged_after next units))
          (listed-each (IsGood all facts (here ++ names_of rest)) text sites paths own)
          (weaker-list (IsGood all facts (here ++ names_of rest)) (IsGood all next (names_of rest)) later (flat_map listed_in (judged_after next units)) (listed-good units next are.1))
      listed-good (Entered file inside ∷ units) facts are = beside (boundary Enters) units facts (listed-good units (facts ++ boundary Enters ∷ []) are.1)
      listed-good (Left file inside ∷ units) facts are = beside (boundary Leaves) units facts (listed-good units (facts ++ boundary Leaves ∷ []) are.1)
      listed-good (End ∷ units) facts are =
          let next = facts ++ [] in
          let names = names_of (named_after next units) in
          weaker-list (IsGood (facts_after next units) facts names) (IsGood (facts_after next units) next names) (λ l good. (subst (λ fs. at fs l.path ≡ None) (append-nil facts) good.0, good.1))
          (flat_map listed_in (judged_after next units)) (listed-good units next are.1)

      pub closings-first : All (ClosesAtFirst events (outcome_of events).facts (declared_names events (named_after [] (units_of events)))) (outcome_of events).listed
      unfolding declared_names
      closings-first =
          let o : Outcome = outcome_of events in
          let names = names_of (named_after [] (units_of events)) in
          All-from_recursion (ClosesAtFirst events o.facts names) o.listed
          (weaker-list (ClosesAtFirst events o.facts names) (IsGood o.facts [] names) (λ l good. closes-first events o.facts names l good.1) o.listed (listed-good (units_of events) [] (units-sited events)))
