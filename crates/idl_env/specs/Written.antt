-- At which keys facts write over a world, and which of them write last at a key.
-- Beside each answer stands the number of the facts that wrote it last. So what a stretch of the
-- facts wrote is told by its first number, however many stretches stand open.
use Rattle.std.specs.Prelude.{ℕ, ◌+◌, Bool, false, ◌||◌, List, [], ◌∷◌, is_some, if◌then◌else◌}
use Rattle.idl_env.specs.Facts.{UnitFacts, World, addition_at, after, closing, count_in, first_world, nameless, path_around, scopes_in, unstopped, with_additions}
use Rattle.idl_env.specs.declared.additions.addition.Addition.{Addition}
use Rattle.idl_env.specs.declared.additions.addition.Step.{Step}
use Rattle.idl_env.specs.declared.additions.addition.Step.TheVariants.{Stays, Opens, OpensNameless, Closes}
use Rattle.idl_env.specs.declared.answering.answer.Scope.{Scope}
use Rattle.idl_env.specs.declared.keys.key.Key.{Key}
use Rattle.idl_env.specs.declared.keys.key.Key.TheVariants.{Cursor, Opened, Nameless, Prefix as PrefixKey}
use Rattle.idl_env.specs.keys.Key.{key_eq}

-- one of these additions leaves an answer at a key
abbrev pub is_added : List Addition → Key → Bool
is_added additions k = is_some (addition_at additions k)

-- an addition of a unit that is not stopped leaves one
abbrev pub adds_at : World → UnitFacts → Key → Bool
adds_at w f k = is_added (unstopped w.answers f.additions) k

-- the opening of the scope at a path leaves one
abbrev pub opens_at : List (List ℕ) → Key → Bool
opens_at path k = key_eq k Cursor || key_eq k (Opened path)

-- and that of a nameless scope
abbrev pub opens_nameless_at : World → Key → Bool
opens_nameless_at w k =
    let name = nameless (count_in (w.answers Nameless)) in
    key_eq k Nameless || opens_at (name ∷ path_around (scopes_in (w.answers Cursor))) k

-- the closing of the innermost of these scopes leaves one; the global one is never closed
abbrev pub closes_at : World → List Scope → Key → Bool
closes_at w [] k = false
closes_at w (s ∷ []) k = false
closes_at w (s ∷ t ∷ outer) k =
    key_eq k PrefixKey || (key_eq k Cursor || is_added (closing w s) k)

-- a change of the open scopes, of the files entered, or of the prefix leaves one
abbrev pub steps_at : World → Step → Key → Bool
steps_at w Stays k = false
steps_at w (Opens path kind) k = opens_at path k
steps_at w (OpensNameless kind) k = opens_nameless_at w k
steps_at w Closes k = closes_at w (scopes_in (w.answers Cursor)) k
steps_at w other k = key_eq k PrefixKey

-- what a unit adds leaves one
abbrev pub writes_at : World → UnitFacts → Key → Bool
writes_at w f k = adds_at w f k || steps_at (with_additions f.additions w) f.step k

-- what one of these units adds leaves one, behind those before it
abbrev pub written_from : World → List UnitFacts → Key → Bool
written_from w [] k = false
written_from w (f ∷ facts) k = writes_at w f k || written_from (after w f) facts k

-- the number of the last of these units that does, from 1, and 0 where none does
abbrev pub last_from : World → List UnitFacts → Key → ℕ
last_from w [] k = 0
last_from w (f ∷ facts) k =
    if written_from (after w f) facts k then last_from (after w f) facts k + 1 else
    (if writes_at w f k then 1 else 0)

-- which of the facts so far wrote last at a key, counted from 1, and 0 where none did
abbrev pub last_written : List UnitFacts → Key → ℕ
last_written facts k = last_from first_world facts k
