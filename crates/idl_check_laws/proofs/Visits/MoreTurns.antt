-- More turns than the facts before a unit need change neither its verdict nor what is logged for it.
use Rattle.std.proofs.Common.{◌≡◌, ◌∙◌, ℕ, suc, ◌+◌, ◌≤◌, Bool, true, false, cond, List, [], ◌∷◌, ◌++◌, Option, None, Some, Result, Ok, Err, is_some, refl, sym, ap, arith, length-append}
use Rattle.std.specs.List.{list_any}
use Rattle.idl_memo.specs.Query.{Ask, Done, and_then, noted, run}
use Rattle.idl_memo.proofs.QueryLaws.{run-and_then_at}
use Rattle.idl_check.proofs.Visits.JudgeLemmas.{under-none}
use Rattle.idl_check.proofs.TypeLemmas.{behind-same}
use Rattle.idl_check.proofs.Visits.VisitLemmas.{cut_by, turns-here}
use Rattle.idl_check.specs.tables.Declaring.{entity_of, inherited, is_any, standing}
use Rattle.idl_check.specs.ids.Identifying.{ids_of}
use Rattle.idl_check.specs.ids.About.{Said, about, about_entity, refused_for, unnamed_faults, with_faults}
use Rattle.idl_check.specs.ids.Pragmas.{said_by, text_faults}
use Rattle.idl_entity.specs.declared.identity.Fixed.{Fixed}
use Rattle.idl_entity.specs.declared.identity.Fixed.TheVariants.{Id, Version}
use Rattle.idl_tree.specs.NameParts.{last_at}
use Rattle.idl_check.specs.told.Types.{behind_typedefs, is_looked_through, looked_through}
use Rattle.idl_check.specs.walk.Verdict.{by_names, by_tree, faulty, judged, placed_walk, pragma_judged, pragma_verdict, unit_tree, verdict}
use Rattle.idl_check.specs.walk.Walk.{Visit, Walk, cut_name, declared_visit, head_of, head_visit, is_known, is_over, looked_at, noted_in, passed, quiet, turns_at, unfound_visit, used, used_visit, visit, walk, spoken_of}
use Rattle.idl_check.specs.declared.tables.standing.Standing.{Standing}
use Rattle.idl_check.specs.declared.walk.verdict.Verdict.{Verdict}
use Rattle.idl_lex.specs.kinds.Keywords.{folded}
use Rattle.idl_lex.specs.tokens.Tokens.{Token}
use Rattle.idl_scope.proofs.LookupLaws.LookupLaws.{denoted-more, reached-more, seen-declared}
use Rattle.idl_scope.proofs.LookupLaws.RunLemmas.{runs, seen_at}
use Rattle.idl_scope.proofs.LookupLaws.TurnsLaws.{AreSame, and_then-same as under-same}
use Rattle.idl_entity.specs.Entity.{is_operation}
use Rattle.idl_env.specs.Facts.{UnitFacts, answers, entity_in, entity_key, scopes_in}
use Rattle.idl_env.specs.keys.Key.{key_eq}
use Rattle.idl_entity.specs.Kind.{inherits}
use Rattle.idl_scope.specs.Lookup.{Lookup, bases_of, by_result, denoted, reached, under}
use Rattle.idl_entity.specs.Path.{name_of}
use Rattle.idl_env.specs.Turns.{HasTurnsFor, declared_among, declared_named, turns_for}
use Rattle.idl_env.specs.declared.additions.addition.Step.TheVariants.{Stays}
use Rattle.idl_env.specs.declared.answering.answer.Answer.{Answer}
use Rattle.idl_env.specs.declared.answering.answer.Scope.{Scope}
use Rattle.idl_entity.specs.declared.entity.Entity.{Entity}
use Rattle.idl_scope.specs.declared.fault.NameFault.{NameFault}
use Rattle.idl_scope.specs.declared.found.Found.{Found}
use Rattle.idl_env.specs.declared.keys.key.Key.{Key}
use Rattle.idl_env.specs.declared.keys.key.Key.TheVariants.{Cursor, Declared, Introduced}
use Rattle.idl_parts.specs.Item.{Item, items}
use Rattle.idl_parts.specs.Part.{Part as item}
use Rattle.idl_parts.specs.UnitParts.{unit_parts}
use Rattle.idl_parts.specs.declared.part.Declaration.{Declaration}
use Rattle.idl_parts.specs.declared.part.Use.{Use}
use Rattle.idl_check.specs.idl_parse.Parse.{pragma_faults}
use Rattle.idl_tree.specs.Pragma.{pragma_of}
use Rattle.idl_tree.specs.declared.name.ScopedName.{ScopedName}
use Rattle.idl_tree.specs.declared.pragma.Pragma.{Pragma}
use Rattle.idl_tree.specs.declared.pragma.Pragma.TheVariants as pragma
use Rattle.idl_tree.specs.declared.unit.Tree.{Tree}
use Rattle.idl_unit.specs.Faults.{least_fault}
use Rattle.idl_unit.specs.TokenRules.{first}
use Rattle.idl_unit.specs.declared.fault.Fault.{Fault}
use Rattle.idl_unit.specs.declared.unit.UnitText.{UnitText}
use Rattle.idl_unit.specs.declared.unit.UnitText.TheVariants as unit
use Rattle.idl_parts.specs.declared.part.TextPurpose.{TextPurpose}
use Rattle.idl_check.specs.ids.Remarks.{purpose_of}

module _ (facts : List UnitFacts) (turns : ℕ) (enough : turns_for facts ≤ turns) (extra : ℕ) where
  -- two queries that give the same and log the same, over any log
  abbrev Same : {A : Type 0} → Lookup A → Lookup A → Type 0
  Same q r = (log : List (Key × Option Answer)) → run key_eq q (answers facts) log ≡ run key_eq r (answers facts) log

  and_then-same : {A B : Type 0} (q r : Lookup A) (f h : A → Lookup B) → Same q r → ((a : A) → Same (f a) (h a)) → Same (and_then q f) (and_then r h)
  and_then-same q r f h one on log =
      let a = (run key_eq q (answers facts) log).0 in
      let after = (run key_eq q (answers facts) log).1 in
      run-and_then_at key_eq q f (answers facts) log a after refl
      ∙ on a after
      ∙ sym (run-and_then_at key_eq r h (answers facts) log a after (one log))

  -- ---- under what the unit's earlier tokens add

  module _ (w : Walk) where
    moved : turns_at (turns + extra) w ≡ turns_at turns w + extra
    moved = omega arith

    here : HasTurnsFor facts w.own (turns_at turns w)
    here = turns-here facts w.own turns enough

    denoted_at : (cursor : List Scope) (name : ScopedName) → Same (under w.own (denoted (turns_at (turns + extra) w) cursor name)) (under w.own (denoted (turns_at turns w) cursor name))
    denoted_at cursor name log =
        ap (λ n. run key_eq (under w.own (denoted n cursor name)) (answers facts) log) moved
        ∙ denoted-more facts w.own (turns_at turns w) here extra cursor name log

    inherited_at : (s : Scope) (n : List ℕ) → AreSame w.own (answers facts) (inherited (turns_at (turns + extra) w) s n) (inherited (turns_at turns w) s n)
    inherited_at s n log = by_kind (inherits s.kind)
      where
        by_kind : (b : Bool) → runs w.own (answers facts) (cond b (Ask (entity_key s.path) (λ scope. reached (turns_at (turns + extra) w) n (bases_of (entity_in scope)))) (Done [])) log
            ≡ runs w.own (answers facts) (cond b (Ask (entity_key s.path) (λ scope. reached (turns_at turns w) n (bases_of (entity_in scope)))) (Done [])) log
        by_kind true =
            let there = bases_of (entity_in (seen_at w.own (answers facts) (entity_key s.path))) in
            ap (λ t. runs w.own (answers facts) (reached t n there) (noted key_eq (answers facts) log (entity_key s.path))) moved
            ∙ reached-more facts w.own (turns_at turns w) here extra n s.path (noted key_eq (answers facts) log (entity_key s.path))
        by_kind false = refl

    standing_at : (s : Scope) (e : Entity) → Same (under w.own (standing (turns_at (turns + extra) w) s e)) (under w.own (standing (turns_at turns w) s e))
    standing_at s e log =
        let n = folded (name_of e.path) in
        let seen = seen_at w.own (answers facts) in
        let there = entity_in (seen (Declared n s.path)) in
        let told : List Entity → Lookup Standing = λ found. and_then (ids_of there e) (λ ids. Done (record {
          there = there;
          is_used = is_some (seen (Introduced n s.path s.body));
          brings_operation = list_any is_operation found;
          is_reached = is_any found;
          ids = ids;
        })) in
        under-same w.own (answers facts) (inherited (turns_at (turns + extra) w) s n) (inherited (turns_at turns w) s n) told told
        (inherited_at s n) (λ found log. refl)
        (noted key_eq (answers facts) (noted key_eq (answers facts) log (Declared n s.path)) (Introduced n s.path s.body))

    through_at : (way : Use) (e : Entity) → Same (under w.own (looked_through (turns_at (turns + extra) w) way e)) (under w.own (looked_through (turns_at turns w) way e))
    unfolding looked_through
    through_at way e log = by_way (is_looked_through way)
      where
        places : List (List (List ℕ))
        places = declared_named facts ++ declared_among w.own

        by_way : (b : Bool) → runs w.own (answers facts) (cond b (behind_typedefs (suc (turns_at (turns + extra) w)) e e) (Done e)) log
            ≡ runs w.own (answers facts) (cond b (behind_typedefs (suc (turns_at turns w)) e e) (Done e)) log
        by_way true =
            let l = length-append (declared_named facts) (declared_among w.own) in
            behind-same w.own (answers facts) e places (seen-declared facts w.own) (suc (turns_at (turns + extra) w)) (suc (turns_at turns w)) e log
            (omega (arith, l, enough)) (omega (arith, l, enough))
        by_way false = refl

    used_at : (way : Use) (name : ScopedName) → Same (used (turns + extra) way name w) (used turns way name w)
    unfolding used
    used_at way name =
        and_then-same (under w.own (denoted (turns_at (turns + extra) w) w.cursor name)) (under w.own (denoted (turns_at turns w) w.cursor name)) (on (turns + extra)) (on turns)
        (denoted_at w.cursor name) goes
      where
        on : ℕ → Result Found NameFault → Lookup Visit
        on t r = by_result r
            (λ found. and_then (under w.own (looked_through (turns_at t w) way found.entity)) (λ behind. Done (used_visit w way name found behind)))
            (λ fault. Done (unfound_visit w way name fault))

        goes : (r : Result Found NameFault) → Same (on (turns + extra) r) (on turns r)
        goes (Ok found) =
            and_then-same (under w.own (looked_through (turns_at (turns + extra) w) way found.entity)) (under w.own (looked_through (turns_at turns w) way found.entity))
            (λ behind. Done (used_visit w way name found behind)) (λ behind. Done (used_visit w way name found behind))
            (through_at way found.entity) (λ behind log. refl)
        goes (Err fault) = λ log. refl

    spoken_at : (p : TextPurpose) (name : ScopedName) → Same (spoken_of (turns + extra) p name w) (spoken_of turns p name w)
    unfolding spoken_of
    spoken_at p name =
        and_then-same (under w.own (denoted (turns_at (turns + extra) w) w.cursor name)) (under w.own (denoted (turns_at turns w) w.cursor name)) _ _
        (denoted_at w.cursor name) (λ r log. refl)

    cut_at : (way : Use) (name : ScopedName) → Same (cut_name (turns + extra) way name w) (cut_name turns way name w)
    unfolding cut_name
    cut_at way name = by_global name.is_global name.rest
      where
        by_global : (b : Bool) (parts : List (List ℕ)) → Same (cut_by (turns + extra) way name w b parts) (cut_by turns way name w b parts)
        by_global true parts = λ log. refl
        by_global false [] = used_at way name
        by_global false (part ∷ parts) =
            and_then-same (under w.own (denoted (turns_at (turns + extra) w) w.cursor (head_of name))) (under w.own (denoted (turns_at turns w) w.cursor (head_of name)))
            (λ r. Done (head_visit name w r)) (λ r. Done (head_visit name w r)) (denoted_at w.cursor (head_of name)) (λ r log. refl)

    declared_at : (way : Declaration) (name : List ℕ) → Same (visit (turns + extra) (item.Declares way name) w) (visit turns (item.Declares way name) w)
    unfolding visit
    declared_at way name log = by_first (first w.cursor)
      where
        declaring : ℕ → Option Scope → Lookup Visit
        declaring t o = elim o as (λ _. Lookup Visit) [
          | None ↦ Done (quiet (passed 1 w))
          | Some s ↦ and_then (under w.own (standing (turns_at t w) s (entity_of w.written way name s.path)))
              (λ there. Done (declared_visit w way s (entity_of w.written way name s.path) there))
        ]

        by_first : (o : Option Scope) → run key_eq (declaring (turns + extra) o) (answers facts) log ≡ run key_eq (declaring turns o) (answers facts) log
        by_first None = refl
        by_first (Some s) =
            let e = entity_of w.written way name s.path in
            and_then-same (under w.own (standing (turns_at (turns + extra) w) s e)) (under w.own (standing (turns_at turns w) s e))
            (λ there. Done (declared_visit w way s e there)) (λ there. Done (declared_visit w way s e there))
            (standing_at s e) (λ there log. refl) log

    named_at : ℕ → Use → ScopedName → Option TextPurpose → Bool → Lookup Visit
    named_at t way name o b = elim o as (λ _. Lookup Visit) [ None ↦ cond b (cut_name t way name w) (used t way name w) | Some p ↦ spoken_of t p name w ]

    known_at : (way : Use) (name : ScopedName) (o : Option TextPurpose) (b : Bool) → Same (named_at (turns + extra) way name o b) (named_at turns way name o b)
    unfolding named_at used
    known_at way name (Some p) b = spoken_at p name
    known_at way name None true = cut_at way name
    known_at way name None false = used_at way name

    looked-same : (site : Item) → Same (looked_at (turns + extra) site w) (looked_at turns site w)
    unfolding visit named_at
    looked-same (item.Declares way name) = declared_at way name
    looked-same (item.Uses way name) = known_at way name (purpose_of way) (is_known (w.at + 1) w)
    looked-same other = λ log. refl

  -- ---- a unit

  walk-same : (sites : List Item) (w : Walk) → Same (walk (turns + extra) sites w) (walk turns sites w)
  unfolding walk
  walk-same [] w log = refl
  walk-same (site ∷ sites) w log = by_over (is_over w) (λ v. walk-same sites (noted_in v w.fault))
    where
      by_over : (b : Bool) → ((v : Visit) → Same (walk (turns + extra) sites (noted_in v w.fault)) (walk turns sites (noted_in v w.fault)))
          → run key_eq (cond b (Done w) (and_then (looked_at (turns + extra) site w) (λ v. walk (turns + extra) sites (noted_in v w.fault)))) (answers facts) log
          ≡ run key_eq (cond b (Done w) (and_then (looked_at turns site w) (λ v. walk turns sites (noted_in v w.fault)))) (answers facts) log
      by_over true on = refl
      by_over false on =
          and_then-same (looked_at (turns + extra) site w) (looked_at turns site w) (λ v. walk (turns + extra) sites (noted_in v w.fault)) (λ v. walk turns sites (noted_in v w.fault))
          (looked-same w site) on log

  bare : HasTurnsFor facts [] turns
  bare = omega (arith, enough)

  denoted-plain : (scopes : List Scope) (name : ScopedName) → Same (denoted (turns + extra) scopes name) (denoted turns scopes name)
  denoted-plain scopes name log =
      ap (λ q. run key_eq q (answers facts) log) (sym (under-none (denoted (turns + extra) scopes name)))
      ∙ denoted-more facts [] turns bare extra scopes name log
      ∙ ap (λ q. run key_eq q (answers facts) log) (under-none (denoted turns scopes name))

  by_names-same : (tokens : List Token) (scopes : List Scope) (tree : Tree) → Same (by_names (turns + extra) tokens scopes tree) (by_names turns tokens scopes tree)
  by_names-same tokens scopes tree =
      and_then-same (walk (turns + extra) (items (unit_parts tree)) (placed_walk scopes tree)) (walk turns (items (unit_parts tree)) (placed_walk scopes tree))
      (λ w. judged tokens scopes tree w) (λ w. judged tokens scopes tree w) (walk-same (items (unit_parts tree)) (placed_walk scopes tree)) (λ w log. refl)

  by_tree-same : (tokens : List Token) (scopes : List Scope) (r : Result Tree Fault) → Same (by_tree (turns + extra) tokens scopes r) (by_tree turns tokens scopes r)
  by_tree-same tokens scopes (Err fault) = λ log. refl
  by_tree-same tokens scopes (Ok tree) = by_names-same tokens scopes tree

  about-same : (scopes : List Scope) (name : ScopedName) (change : Fixed) → Same (about 2 (turns + extra) scopes name change) (about 2 turns scopes name change)
  about-same scopes name change =
      and_then-same (denoted (turns + extra) scopes name) (denoted turns scopes name) on on (denoted-plain scopes name) (λ r log. refl)
    where
      on : Result Found NameFault → Lookup Said
      on r = by_result r (λ found. about_entity (last_at 2 name) change found.entity) (λ fault. Done (refused_for (unnamed_faults 2 name fault)))

  said_by-same : (scopes : List Scope) (o : Option Pragma) → Same (said_by (turns + extra) scopes o) (said_by turns scopes o)
  said_by-same scopes None = λ log. refl
  said_by-same scopes (Some (pragma.Prefix text)) = λ log. refl
  said_by-same scopes (Some (pragma.Id name text)) =
      let told : Said → Lookup Said = λ s. Done (with_faults (text_faults (last_at 2 name + 1) text) s) in
      and_then-same (about 2 (turns + extra) scopes name (Id text)) (about 2 turns scopes name (Id text)) told told (about-same scopes name (Id text)) (λ s log. refl)
  said_by-same scopes (Some (pragma.Version name major minor)) = about-same scopes name (Version major minor)

  pragma_judged-same : (tokens : List Token) (inside : Bool) (scopes : List Scope) → Same (pragma_judged (turns + extra) tokens inside scopes) (pragma_judged turns tokens inside scopes)
  pragma_judged-same tokens inside scopes log = by_fault (least_fault (pragma_faults tokens inside))
    where
      spoken : ℕ → Option Fault → Lookup Verdict
      spoken t o = elim o as (λ _. Lookup Verdict) [
        | Some fault ↦ Done (faulty fault Stays)
        | None ↦ and_then (said_by t scopes (pragma_of tokens)) (λ s. Done (pragma_verdict s))
      ]

      by_fault : (o : Option Fault) → run key_eq (spoken (turns + extra) o) (answers facts) log ≡ run key_eq (spoken turns o) (answers facts) log
      by_fault (Some fault) = refl
      by_fault None =
          and_then-same (said_by (turns + extra) scopes (pragma_of tokens)) (said_by turns scopes (pragma_of tokens)) (λ s. Done (pragma_verdict s)) (λ s. Done (pragma_verdict s))
          (said_by-same scopes (pragma_of tokens)) (λ s log. refl) log

  pub verdict-same : (text : UnitText) → Same (verdict (turns + extra) text) (verdict turns text)
  unfolding verdict
  verdict-same (unit.Tokens tokens) log =
      let scopes = scopes_in (answers facts Cursor) in
      by_tree-same tokens scopes (unit_tree tokens scopes) (noted key_eq (answers facts) log Cursor)
  verdict-same (unit.Pragma tokens inside) log = pragma_judged-same tokens inside (scopes_in (answers facts Cursor)) (noted key_eq (answers facts) log Cursor)
