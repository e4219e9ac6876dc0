-- Where facts write no answer, there is the one before them.
use Rattle.std.proofs.Common.{◌≡◌, Bool, true, false, cond, List, [], ◌∷◌, ◌++◌, Option, Some, None, refl, sym, ap, ◌∙◌}
use Rattle.std.specs.Prelude.{◌||◌, IsFalse, is_some}
use Rattle.idl_env.specs.Facts.{UnitFacts, World, addition_at, after, after_all, after_closing, after_step, answer_of, answers, closing, count_in, first_world, nameless, over, path_around, scopes_in, unstopped, with_additions, world}
use Rattle.idl_env.specs.Written.{closes_at, is_added, steps_at, writes_at, written_from}
use Rattle.idl_env.specs.keys.Key.{key_eq}
use Rattle.idl_env.specs.declared.additions.addition.Addition.{Addition}
use Rattle.idl_env.specs.declared.additions.addition.Step.{Step}
use Rattle.idl_env.specs.declared.additions.addition.Step.TheVariants.{Stays, Opens, OpensNameless, Closes, Prefixes, Enters, Leaves}
use Rattle.idl_env.specs.declared.answering.answer.Answer.{Answer}
use Rattle.idl_env.specs.declared.answering.answer.Scope.{Scope}
use Rattle.idl_env.specs.declared.keys.key.Key.{Key}
use Rattle.idl_env.specs.declared.keys.key.Key.TheVariants.{Cursor, Nameless, Opened, Prefix as PrefixKey}
use Rattle.idl_env.proofs.AnswerLaws.CountLemmas.{world-is}

-- where neither of two holds
pub neither-first : (a b : Bool) → IsFalse (a || b) → IsFalse a
neither-first true b h = h
neither-first false b h = refl

pub neither-second : (a b : Bool) → IsFalse (a || b) → IsFalse b
neither-second true b h = absurd (let z : true ≡ false = h in cc)
neither-second false b h = h

passed : (b : Bool) (a before : Option Answer) → IsFalse b → cond b a before ≡ before
passed true a before h = absurd (let z : true ≡ false = h in cc)
passed false a before h = refl

passed_both : (b c : Bool) (a d before : Option Answer) → IsFalse (b || c) → cond b a (cond c d before) ≡ before
passed_both b c a d before h = passed b a (cond c d before) (neither-first b c h) ∙ passed c d before (neither-second b c h)

unadded : (additions : List Addition) (k : Key) (before : Option Answer) → IsFalse (is_added additions k) → over additions k before ≡ before
unadded additions k before h = by (addition_at additions k) h
  where
    by : (o : Option Addition) → IsFalse (is_some o) → elim o [ None ↦ before | Some a ↦ Some (answer_of a) ] ≡ before
    by None j = refl
    by (Some a) j = absurd (let z : true ≡ false = j in cc)

unclosed : (w : World) (scopes : List Scope) (k : Key) → IsFalse (closes_at w scopes k) → (after_closing w scopes).answers k ≡ w.answers k
unclosed w [] k h = refl
unclosed w (s ∷ []) k h = refl
unclosed w (s ∷ t ∷ outer) k h =
    let rest = neither-second (key_eq k PrefixKey) (key_eq k Cursor || is_added (closing w s) k) h in
    passed (key_eq k PrefixKey) _ _ (neither-first (key_eq k PrefixKey) (key_eq k Cursor || is_added (closing w s) k) h)
    ∙ passed (key_eq k Cursor) _ _ (neither-first (key_eq k Cursor) (is_added (closing w s) k) rest)
    ∙ unadded (closing w s) k (w.answers k) (neither-second (key_eq k Cursor) (is_added (closing w s) k) rest)

unstepped : (w : World) (step : Step) (k : Key) → IsFalse (steps_at w step k) → (after_step w step).answers k ≡ w.answers k
unstepped w Stays k h = refl
unstepped w (Opens path kind) k h = passed_both (key_eq k Cursor) (key_eq k (Opened path)) _ _ (w.answers k) h
unstepped w (OpensNameless kind) k h =
    let path = nameless (count_in (w.answers Nameless)) ∷ path_around (scopes_in (w.answers Cursor)) in
    let first = neither-first (key_eq k Nameless) (key_eq k Cursor || key_eq k (Opened path)) h in
    passed_both (key_eq k Cursor) (key_eq k (Opened path)) _ _ _ (neither-second (key_eq k Nameless) (key_eq k Cursor || key_eq k (Opened path)) h)
    ∙ passed (key_eq k Nameless) _ (w.answers k) first
unstepped w Closes k h = unclosed w (scopes_in (w.answers Cursor)) k h
unstepped w (Prefixes text) k h = passed (key_eq k PrefixKey) _ (w.answers k) h
unstepped w Enters k h = passed (key_eq k PrefixKey) _ (w.answers k) h
unstepped w Leaves k h = passed (key_eq k PrefixKey) _ (w.answers k) h

-- where the facts of a unit write nothing
pub unwritten : (w : World) (f : UnitFacts) (k : Key) → IsFalse (writes_at w f k) → (after w f).answers k ≡ w.answers k
unwritten w f k h =
    let added = with_additions f.additions w in
    let adds = is_added (unstopped w.answers f.additions) k in
    unstepped added f.step k (neither-second adds (steps_at added f.step k) h)
    ∙ unadded (unstopped w.answers f.additions) k (w.answers k) (neither-first adds (steps_at added f.step k) h)

-- and where none of many do
pub unwritten_all : (facts : List UnitFacts) (w : World) (k : Key) → IsFalse (written_from w facts k) → (after_all w facts).answers k ≡ w.answers k
unwritten_all [] w k h = refl
unwritten_all (f ∷ facts) w k h =
    unwritten_all facts (after w f) k (neither-second (writes_at w f k) (written_from (after w f) facts k) h)
    ∙ unwritten w f k (neither-first (writes_at w f k) (written_from (after w f) facts k) h)

after_all-joined : (before behind : List UnitFacts) (w : World) → after_all w (before ++ behind) ≡ after_all (after_all w before) behind
after_all-joined [] behind w = refl
after_all-joined (f ∷ before) behind w = after_all-joined before behind (after w f)

-- behind the facts before them
pub unwritten-behind : (before behind : List UnitFacts) (k : Key) → IsFalse (written_from (world before) behind k) → answers (before ++ behind) k ≡ answers before k
unwritten-behind before behind k h =
    let whole : world (before ++ behind) ≡ after_all (world before) behind =
    world-is (before ++ behind)
    ∙ after_all-joined before behind first_world
    ∙ ap (λ w. after_all w behind) (sym (world-is before)) in
    ap (λ (w : World). w.answers k) whole ∙ unwritten_all behind (world before) k h
