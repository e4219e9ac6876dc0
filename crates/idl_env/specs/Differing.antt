-- At which keys additions that take the place of others change the answer in another way.
use Rattle.std.specs.Prelude.{ℕ, Bool, false, ◌&&◌, List, [], ◌++◌, None, Some, filter, map, not}
use Rattle.std.specs.Cmp.Lexicographic.{pointwise}
use Rattle.idl_entity.specs.Path.{path_eq}
use Rattle.idl_env.specs.Facts.{addition_at, answer_of, key_of}
use Rattle.idl_env.specs.SameAnswer.{answer_eq}
use Rattle.idl_env.specs.keys.Key.{key_eq}
use Rattle.idl_env.specs.declared.additions.addition.Addition.{Addition}
use Rattle.idl_env.specs.declared.additions.addition.Addition.TheVariants.{UsesFurther}
use Rattle.idl_env.specs.declared.keys.key.Key.{Key}

-- the paths of the scopes that may stop an addition
abbrev pub unless_of : Addition → List (List (List ℕ))
unless_of (UsesFurther n path further) = further.unless
unless_of other = []

-- whether two additions are alike: at one key they leave one answer, and the same scopes may stop both
abbrev pub is_alike : Addition → Addition → Bool
is_alike a b =
    key_eq (key_of a) (key_of b)
    && (pointwise path_eq (unless_of a) (unless_of b) && answer_eq (answer_of a) (answer_of b))

-- whether the one of these at the key of an addition is alike to it
abbrev pub has_alike : List Addition → Addition → Bool
has_alike additions a =
    elim (addition_at additions (key_of a)) [ None ↦ false | Some b ↦ is_alike a b ]

-- the keys of additions to which none of the others is alike
abbrev pub unlike : List Addition → List Addition → List Key
unlike additions others = map key_of (filter (λ a. not (has_alike others a)) additions)

-- the keys at which two lists of additions differ
abbrev pub differing : List Addition → List Addition → List Key
differing additions others = unlike additions others ++ unlike others additions
