-- Where no site declares a name ahead, nothing is told of that is declared ahead.
use Rattle.std.proofs.Common.{◌≡◌, ℕ, Bool, true, false, cond, List, [], ◌∷◌, ◌++◌, drop, map, Option, None, Some, Result, Ok, Err, sym, subst, inl, inr}
use Rattle.std.proofs.lemmas.List.Elements.{All-head, All-tail}
use Rattle.std.specs.Prelude.{◌≢◌, ◌&&◌, All, fold, take}
use Rattle.idl_check.proofs.Visits.RemarkLaws.{IsOfIds, remark-is}
use Rattle.idl_check.proofs.Visits.SiteLaws.{declared_by, end_visit, spoken_by, union_visit, used_by, visited}
use Rattle.idl_check.specs.ids.Identifying.{with_identity}
use Rattle.idl_check.specs.ids.Remarks.{purpose_of, remark}
use Rattle.idl_check.specs.tables.Declaring.{entity_of, finished, stage_of, standing, stays, with_declared, with_finished}
use Rattle.idl_check.specs.tables.Using.{further_uses, last_after, own_after, uses_of}
use Rattle.idl_check.specs.told.Bodies.{Body, Clauses, array_of, is_member, member_of, raises, raising, signature_of, told_innermost, with_array_member, with_array_type, with_body_label, with_innermost, with_last_type, with_member, with_name, with_next_label}
use Rattle.idl_check.specs.told.Types.{looked_through}
use Rattle.idl_check.specs.walk.Judging.{walked}
use Rattle.idl_check.specs.walk.Walk.{Visit, Walk, declared_visit, ended_scope, is_begun, outcome_at, plain_name, spoken_of, spoken_visit, turns_at, used, used_visit, value_visit, visit, with_array}
use Rattle.idl_check.specs.declared.ids.identifying.Ids.{Ids}
use Rattle.idl_check.specs.declared.tables.standing.Standing.{Standing}
use Rattle.idl_entity.specs.Kind.{kind_eq}
use Rattle.idl_entity.specs.declared.entity.Entity.{Entity}
use Rattle.idl_entity.specs.declared.kind.Kind.TheVariants.{Attribute, Interface, Member, Union}
use Rattle.idl_entity.specs.declared.kind.Stage.TheVariants.{Ahead, Complete, Open}
use Rattle.idl_env.proofs.Membership.{IsIn}
use Rattle.idl_env.specs.Facts.{key_of, over, with_addition}
use Rattle.idl_env.specs.keys.Key.{key_eq}
use Rattle.idl_env.specs.declared.additions.addition.Addition.{Addition}
use Rattle.idl_env.specs.declared.additions.addition.Addition.TheVariants.{Appears, Declares, Uses}
use Rattle.idl_env.specs.declared.answering.answer.Answer.{Answer}
use Rattle.idl_env.specs.declared.answering.answer.Scope.{Scope}
use Rattle.idl_env.specs.declared.keys.key.Key.{Key}
use Rattle.idl_lex.specs.kinds.Keywords.{folded}
use Rattle.idl_memo.proofs.QueryLaws.{outcome-and_then}
use Rattle.idl_memo.specs.Query.{Done, outcome}
use Rattle.idl_parts.specs.Item.{Item}
use Rattle.idl_parts.specs.Part.{Part as item}
use Rattle.idl_parts.specs.declared.part.Declaration.{Declaration}
use Rattle.idl_parts.specs.declared.part.Purpose.{Purpose}
use Rattle.idl_parts.specs.declared.part.Purpose.TheVariants as purpose
use Rattle.idl_parts.specs.declared.part.TextPurpose.{TextPurpose}
use Rattle.idl_parts.specs.declared.part.Use.{Use}
use Rattle.idl_parts.specs.declared.part.Use.TheVariants.{AsStructBase}
use Rattle.idl_scope.specs.Lookup.{Lookup, denoted, under}
use Rattle.idl_scope.specs.declared.fault.NameFault.{NameFault}
use Rattle.idl_scope.specs.declared.fault.NameFault.TheVariants.{At, Memory}
use Rattle.idl_scope.specs.Meaning.{undeclared}
use Rattle.idl_scope.specs.declared.found.Found.{Found}
use Rattle.idl_scope.specs.declared.found.Reach.{Reach}
use Rattle.idl_tree.specs.NameParts.{last_at}
use Rattle.idl_tree.specs.declared.name.ScopedName.{ScopedName}
use Rattle.idl_unit.specs.TokenRules.{first as first_of}
use Rattle.idl_value.specs.declared.value.Value.{Value}
use Rattle.idl_value.specs.declared.outcome.Outcome.{Outcome}
use Rattle.idl_value.specs.declared.outcome.Outcome.TheVariants as comes

-- ---- what is declared further than ahead

abbrev pub AdditionSo : Addition → Type 0
AdditionSo (Declares e) = e.stage ≢ Ahead
AdditionSo other = Unit {0}

abbrev pub AdditionsSo : List Addition → Type 0
AdditionsSo [] = Unit {0}
AdditionsSo (a ∷ own) = AdditionSo a × AdditionsSo own

abbrev pub EntitiesSo : List Entity → Type 0
EntitiesSo [] = Unit {0}
EntitiesSo (e ∷ es) = (e.stage ≢ Ahead) × EntitiesSo es

abbrev pub LastSo : Option Entity → Type 0
LastSo None = Unit {0}
LastSo (Some e) = e.stage ≢ Ahead

abbrev pub BodiesSo : List Body → Type 0
BodiesSo [] = Unit {0}
BodiesSo (b ∷ bodies) = LastSo b.entity × BodiesSo bodies

-- so a walk has told of nothing that is declared ahead
abbrev pub WalkSo : Walk → Type 0
WalkSo w = AdditionsSo w.own × (EntitiesSo w.begun × (LastSo w.last × BodiesSo w.bodies))

with-so : (a : Addition) (own : List Addition) → AdditionSo a → AdditionsSo own → AdditionsSo (with_addition own a)
with-so a [] h g = (h, tt)
with-so a (b ∷ own) h g = by (key_eq (key_of a) (key_of b)) (with-so a own h g.1)
  where
    by : (t : Bool) → AdditionsSo (with_addition own a) → AdditionsSo (cond t (a ∷ own) (b ∷ with_addition own a))
    by true more = (h, g.1)
    by false more = (g.0, more)

fold-so : (more own : List Addition) → AdditionsSo more → AdditionsSo own → AdditionsSo (fold with_addition own more)
fold-so [] own h g = g
fold-so (a ∷ more) own h g = fold-so more (with_addition own a) h.1 (with-so a own h.0 g)

additions-so : (xs ys : List Addition) → AdditionsSo xs → AdditionsSo ys → AdditionsSo (xs ++ ys)
additions-so [] ys h g = g
additions-so (x ∷ xs) ys h g = (h.0, additions-so xs ys h.1 g)

entities-so : (xs ys : List Entity) → EntitiesSo xs → EntitiesSo ys → EntitiesSo (xs ++ ys)
entities-so [] ys h g = g
entities-so (x ∷ xs) ys h g = (h.0, entities-so xs ys h.1 g)

if-so : (b : Bool) (e : Entity) → e.stage ≢ Ahead → EntitiesSo (cond b (e ∷ []) [])
if-so true e h = (h, tt)
if-so false e h = tt

-- ---- uses, and what is said

certain-so : (n : List ℕ) (ss : List Scope) → AdditionsSo (map (λ s. Uses n s.path s.body) ss)
certain-so n [] = tt
certain-so n (s ∷ ss) = (tt, certain-so n ss)

further-so : (n : List ℕ) (before : List (List (List ℕ))) (ss : List Scope) → AdditionsSo (further_uses n before ss)
further-so n before [] = tt
further-so n before (s ∷ ss) = (tt, further-so n (before ++ s.path ∷ []) ss)

uses-so : (n : List ℕ) (r : Reach) (scopes : List Scope) (own : List Addition) → AdditionsSo (uses_of n r scopes own)
uses-so n r scopes own =
    let left = undeclared (λ k. over own k None) n (take r.further (drop r.certain scopes)) in
    additions-so (map (λ s. Uses n s.path s.body) (take r.certain scopes)) (further_uses n [] left) (certain-so n (take r.certain scopes)) (further-so n [] left)

ids-so : (a : Addition) → IsOfIds a → AdditionSo a
ids-so (Declares e) h = absurd h
ids-so other h = tt

all-ids-so : (more : List Addition) → All IsOfIds more → AdditionsSo more
all-ids-so [] all = tt
all-ids-so (a ∷ more) all = (ids-so a (All-head IsOfIds a more all), all-ids-so more (All-tail IsOfIds a more all))

base-so : (way : Use) (o : Option Entity) (own : List Addition) → LastSo o → AdditionsSo own → AdditionsSo (own_after way o own)
base-so AsStructBase (Some e) own h g = with-so (Declares e) own h g
base-so other o own h g = g

last-so : (way : Use) (path : List (List ℕ)) (o : Option Entity) → LastSo o → LastSo (last_after way path o)
last-so AsStructBase path (Some e) h = λ z. cc
last-so other path o h = h

-- ---- bodies

innermost-so : (next : Body → Body) → ((b : Body) → LastSo b.entity → LastSo (next b).entity) → (bodies : List Body) → BodiesSo bodies → BodiesSo (with_innermost next bodies)
innermost-so next f [] h = tt
innermost-so next f (b ∷ bodies) h = (f b h.0, h.1)

member-so : (way : Declaration) (e : Entity) (bodies : List Body) → BodiesSo bodies → BodiesSo (with_member way e bodies)
member-so way e bodies h = innermost-so (with_name way e) named bodies h
  where
    named : (b : Body) → LastSo b.entity → LastSo (with_name way e b).entity
    named b g = by (is_member e.kind)
      where
        by : (t : Bool) → LastSo (cond t (record b { members = b.members ++ member_of way e b.labels ∷ []; labels = [] }) b).entity
        by true = g
        by false = g

label-so : (label : Option Value) (bodies : List Body) → BodiesSo bodies → BodiesSo (with_body_label label bodies)
label-so label bodies h = innermost-so (with_next_label label) (λ b g. g) bodies h

array-so : (lengths : List ℕ) (o : Option Entity) (bodies : List Body) → BodiesSo bodies → BodiesSo (with_array_member lengths o bodies)
array-so lengths None bodies h = h
array-so lengths (Some e) bodies h = innermost-so (with_array_type (array_of lengths e)) typed bodies h
  where
    typed : (b : Body) → LastSo b.entity → LastSo (with_array_type (array_of lengths e) b).entity
    typed b g = by (kind_eq e.kind Member)
      where
        by : (t : Bool) → LastSo (cond t (record b { members = with_last_type (array_of lengths e).data_type b.members }) b).entity
        by true = g
        by false = g

drop-so : (bodies : List Body) → BodiesSo bodies → BodiesSo (drop 1 bodies)
drop-so [] h = tt
drop-so (b ∷ bodies) h = h.1

told-so : (clauses : Clauses) (bodies : List Body) → EntitiesSo (told_innermost clauses bodies)
told-so clauses [] = tt
told-so clauses (b ∷ bodies) = by b.entity
  where
    by : (o : Option Entity)
        → EntitiesSo (elim o as (λ _. List Entity) [
          | None ↦ []
          | Some e ↦ record e { stage = Complete; data_type = cond (kind_eq e.kind Union) b.data_type e.data_type; signature = Some (signature_of b.members clauses) } ∷ []
        ])
    by None = tt
    by (Some e) = (λ z. cc, tt)

-- ---- a site

-- no name is declared ahead at it
abbrev pub SiteSo : Item → Type 0
SiteSo (item.Declares way name) = stage_of way ≢ Ahead
SiteSo other = Unit {0}

abbrev pub SitesSo : List Item → Type 0
SitesSo [] = Unit {0}
SitesSo (site ∷ sites) = SiteSo site × SitesSo sites

identity-so : (o : Option Entity) (ids : Option Ids) (e : Entity) (own : List Addition) → AdditionsSo own → AdditionsSo (with_identity o ids e own)
identity-so (Some old) ids e own h = h
identity-so None None e own h = h
identity-so None (Some ids) e own h = with-so (Appears e.path ids.prefix) own tt h

declares-so : (there : Standing) (e : Entity) (own : List Addition) → e.stage ≢ Ahead → AdditionsSo own → AdditionsSo (with_declared there e own)
declares-so there e own so h = by (stays there.there e)
  where
    by : (b : Bool) → AdditionsSo (cond b (with_identity there.there there.ids e own) (with_addition (with_identity there.there there.ids e own) (Declares e)))
    by true = identity-so there.there there.ids e own h
    by false = with-so (Declares e) (with_identity there.there there.ids e own) so (identity-so there.there there.ids e own h)

visit-so : (w : Walk) (way : Declaration) (name : List ℕ) (s : Scope) (there : Standing) → stage_of way ≢ Ahead → WalkSo w → WalkSo (declared_visit w way s (entity_of w.written way name s.path) there).after
visit-so w way name s there so h =
    let e = entity_of w.written way name s.path in
    (declares-so there e w.own so h.0, (entities-so w.begun (cond (is_begun e) (e ∷ []) []) h.1.0 (if-so (is_begun e) e so), (so, member-so way e w.bodies h.1.1.1)))

value-so : (w : Walk) (way : Purpose) (o : Outcome) → WalkSo w → WalkSo (value_visit w way o).after
value-so w purpose.Bound (comes.Value v) h = h
value-so w purpose.Constant (comes.Value v) h = h
value-so w purpose.Length (comes.Value v) h = h
value-so w purpose.Label (comes.Value v) h = (h.0, (h.1.0, (h.1.1.0, label-so (Some v) w.bodies h.1.1.1)))
value-so w way (comes.Fault f) h = h
value-so w way comes.Told h = h

ended-so : (w : Walk) → WalkSo w → WalkSo (ended_scope w)
ended-so w h = (h.0, (entities-so w.begun (told_innermost w.clauses w.bodies) h.1.0 (told-so w.clauses w.bodies), (h.1.1.0, drop-so w.bodies h.1.1.1)))

union-so : (w : Walk) (b : Bool) → WalkSo w → WalkSo (union_visit w b).after
union-so w true h = ended-so w h
union-so w false h = ended-so w h

end-so : (w : Walk) (o : Option Scope) → WalkSo w → WalkSo (end_visit w o).after
end-so w None h = h
end-so w (Some s) h = union-so w (kind_eq s.kind Union) h

array-own-so : (lengths : List ℕ) (o : Option Entity) (own : List Addition) → LastSo o → AdditionsSo own → AdditionsSo (with_array lengths o own)
array-own-so lengths None own h g = g
array-own-so lengths (Some e) own h g = with-so (Declares (array_of lengths e)) own h g

module _ (turns : ℕ) (answers : Key → Option Answer) where
  declared-so : (way : Declaration) (name : List ℕ) (w : Walk) (o : Option Scope) → stage_of way ≢ Ahead → WalkSo w → WalkSo (outcome (declared_by turns answers way name w o) answers).after
  declared-so way name w None so h = h
  declared-so way name w (Some s) so h =
      let e = entity_of w.written way name s.path in
      let query = under w.own (standing (turns_at turns w) s e) in
      subst (λ (v : Visit). WalkSo v.after) (sym (outcome-and_then query (λ there. Done (declared_visit w way s e there)) answers)) (visit-so w way name s (outcome query answers) so h)

  used-so : (way : Use) (name : ScopedName) (w : Walk) (r : Result Found NameFault) → WalkSo w → WalkSo (outcome (used_by turns answers way name w r) answers).after
  used-so way name w (Ok found) h =
      let uses = uses_of (folded name.first) found.reach w.cursor w.own in
      let last = last_after way found.entity.path w.last in
      let so = last-so way found.entity.path w.last h.1.1.0 in
      subst (λ (v : Visit). WalkSo v.after) (sym (outcome-and_then (under w.own (looked_through (turns_at turns w) way found.entity)) (λ behind. Done (used_visit w way name found behind)) answers))
      (base-so way last (fold with_addition w.own uses) so (fold-so uses w.own (uses-so (folded name.first) found.reach w.cursor w.own) h.0), (h.1.0, (so, h.1.1.1)))
  used-so way name w (Err (At why part)) h = h
  used-so way name w (Err Memory) h = h

  plain-so : (way : Use) (name : ScopedName) (w : Walk) → WalkSo w → WalkSo (outcome (used turns way name w) answers).after
  unfolding used
  plain-so way name w h =
      let query = under w.own (denoted (turns_at turns w) w.cursor name) in
      subst (λ (v : Visit). WalkSo v.after) (sym (outcome-and_then query (used_by turns answers way name w) answers)) (used-so way name w (outcome query answers) h)

  spoken-so : (p : TextPurpose) (name : ScopedName) (w : Walk) (r : Result Found NameFault) → WalkSo w → WalkSo (outcome (spoken_by turns answers p name w r) answers).after
  spoken-so p name w (Ok found) h =
      let query = under w.own (remark p (last_at w.at name) w.text found.entity) in
      let is = remark-is w.own answers p (last_at w.at name) w.text found.entity in
      let more = (outcome query answers).additions in
      subst (λ (v : Visit). WalkSo v.after) (sym (outcome-and_then query (λ s. Done (spoken_visit w name found s)) answers))
      (fold-so more w.own (all-ids-so more is.adds) h.0, h.1)
  spoken-so p name w (Err fault) h = h

  said-so : (p : TextPurpose) (name : ScopedName) (w : Walk) → WalkSo w → WalkSo (outcome (spoken_of turns p name w) answers).after
  unfolding spoken_of
  said-so p name w h =
      let query = under w.own (denoted (turns_at turns w) w.cursor name) in
      subst (λ (v : Visit). WalkSo v.after) (sym (outcome-and_then query (spoken_by turns answers p name w) answers)) (spoken-so p name w (outcome query answers) h)

  any-so : (way : Use) (name : ScopedName) (w : Walk) → WalkSo w → WalkSo (outcome (plain_name turns way name w) answers).after
  any-so way name w h = by_purpose (purpose_of way)
    where
      by_purpose : (o : Option TextPurpose) → WalkSo (outcome (elim o as (λ _. Lookup Visit) [ None ↦ used turns way name w | Some p ↦ spoken_of turns p name w ]) answers).after
      by_purpose (Some p) = said-so p name w h
      by_purpose None = plain-so way name w h

  site-so : (site : Item) (w : Walk) → SiteSo site → WalkSo w → WalkSo (visited turns answers site w).after
  unfolding visit
  site-so (item.Declares way name) w so h = declared-so way name w (first_of w.cursor) so h
  site-so (item.Uses way name) w so h = any-so way name w h
  site-so (item.ScopeBegins way name) w so h = (h.0, (h.1.0, (h.1.1.0, (h.1.1.0, h.1.1.1))))
  site-so (item.ValueEnds way e) w so h = value-so w way (outcome_at w way e) h
  site-so item.ScopeEnds w so h = end-so w (first_of w.cursor) h
  site-so item.ArrayEnds w so h = (array-own-so w.values.lengths w.last w.own h.1.1.0 h.0, (h.1.0, (h.1.1.0, array-so w.values.lengths w.last w.bodies h.1.1.1)))
  site-so item.Default w so h = (h.0, (h.1.0, (h.1.1.0, label-so None w.bodies h.1.1.1)))
  site-so other w so h = h

  pub walked-so : (sites : List Item) (w : Walk) → SitesSo sites → WalkSo w → WalkSo (walked turns answers sites w)
  walked-so [] w so h = h
  walked-so (site ∷ sites) w so h = walked-so sites (visited turns answers site w).after so.1 (site-so site w so.0 h)

-- ---- at a unit's end

-- what a walk comes to
abbrev pub additions_at : Walk → List Addition
additions_at w = with_finished (finished w.bases.paths w.values.constant w.clauses) w.own (w.begun ++ raising w.last w.clauses)

finished-so : (bases : List (List (List ℕ))) (v : Option Value) (clauses : Clauses) (e : Entity) → e.stage ≢ Ahead → (finished bases v clauses e).stage ≢ Ahead
finished-so bases v clauses e h = by (kind_eq e.kind Interface) (kind_eq e.kind Attribute)
  where
    by : (b c : Bool) → (cond b (record e { stage = Open; bases = bases }) (cond c (record e { signature = Some (signature_of [] clauses) }) (record e { stage = Complete; value = v }))).stage ≢ Ahead
    by true c = λ z. cc
    by false true = h
    by false false = λ z. cc

finish-so : (bases : List (List (List ℕ))) (v : Option Value) (clauses : Clauses) (es : List Entity) → EntitiesSo es → AdditionsSo (map (λ e. Declares (finished bases v clauses e)) es)
finish-so bases v clauses [] h = tt
finish-so bases v clauses (e ∷ es) h = (finished-so bases v clauses e h.0, finish-so bases v clauses es h.1)

raising-so : (o : Option Entity) (clauses : Clauses) → LastSo o → EntitiesSo (raising o clauses)
raising-so None clauses h = tt
raising-so (Some e) clauses h = if-so (kind_eq e.kind Attribute && raises clauses) e h

pub ends-so : (w : Walk) → WalkSo w → AdditionsSo (additions_at w)
ends-so w h =
    let es = w.begun ++ raising w.last w.clauses in
    fold-so (map (λ e. Declares (finished w.bases.paths w.values.constant w.clauses e)) es) w.own
    (finish-so w.bases.paths w.values.constant w.clauses es (entities-so w.begun (raising w.last w.clauses) h.1.0 (raising-so w.last w.clauses h.1.1.0))) h.0

pub none-ahead : (own : List Addition) (x : Entity) → AdditionsSo own → IsIn (Declares x) own → x.stage ≡ Ahead → ⊥
none-ahead [] x h i ahead = i
none-ahead (a ∷ own) x h (inl is) ahead = subst AdditionSo is h.0 ahead
none-ahead (a ∷ own) x h (inr i) ahead = none-ahead own x h.1 i ahead
