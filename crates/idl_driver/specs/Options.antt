-- What the options ask for: macros, directories and roots.
use Rattle.std.specs.Prelude.{◌≡◌, ℕ, Bool, List, [], ◌∷◌, ◌++◌, filter, fold, is_some, map, nat_eq, not, codes, Option, None, Some, option_and_then, unwrap_or, if◌then◌else◌}
use Rattle.std.specs.Option.{option_map_or}
use Rattle.std.specs.List.{list_any}
use Rattle.std.specs.Map.{remove_entry}
use Rattle.std.specs.Str.{bytes_eq}
use Rattle.indexmap.specs.IndexMap.{insert_entry}
use Rattle.idl_source.specs.names.Path.{directory_path, joined_path}
use Rattle.idl_inputs.specs.Project.{Inputs, Macros}
use Rattle.idl_driver.specs.declared.options.Options.{Options}

-- what stands before the first `=`
abbrev pub before_equals : List ℕ → List ℕ
before_equals [] = []
before_equals (b ∷ bytes) = if nat_eq b 61 then [] else b ∷ before_equals bytes

-- what stands behind it, if there is one
abbrev pub after_equals : List ℕ → Option (List ℕ)
after_equals [] = None
after_equals (b ∷ bytes) = if nat_eq b 61 then Some bytes else after_equals bytes

-- the body of the macro that `NAME` or `NAME=VALUE` defines: without a value `1`
abbrev pub macro_body : List ℕ → List ℕ
macro_body word = unwrap_or (after_equals word) (codes "1")

-- macros, and then those that words define, one after the other
abbrev pub defined_by : Macros → List (List ℕ) → Macros
defined_by macros [] = macros
defined_by macros (word ∷ words) =
    defined_by (insert_entry bytes_eq macros (before_equals word) (macro_body word)) words

-- macros without those of these names
abbrev pub undefined_by : Macros → List (List ℕ) → Macros
undefined_by macros [] = macros
undefined_by macros (name ∷ names) = undefined_by (remove_entry (bytes_eq name) macros) names

-- directories, and then those that words name; a word may name none
abbrev pub searched_by : List (List ℕ) → List (List ℕ) → Option (List (List ℕ))
searched_by directories [] = Some directories
searched_by directories (word ∷ words) =
    option_and_then (λ directory. searched_by (directories ++ directory ∷ []) words)
    (directory_path word)

-- names, and one more where it isn't there
abbrev pub with_name : List (List ℕ) → List ℕ → List (List ℕ)
with_name names name = if list_any (bytes_eq name) names then names else names ++ name ∷ []

-- names, and then those that words lead to, each once; a word may lead to none
abbrev pub named_by : List (List ℕ) → List (List ℕ) → Option (List (List ℕ))
named_by names [] = Some names
named_by names (word ∷ words) =
    option_and_then (λ name. named_by (with_name names name) words) (joined_path (codes ".") word)

-- names, and one more where a word leads to one that isn't there
abbrev pub with_word : List (List ℕ) → List ℕ → List (List ℕ)
with_word names word = option_map_or (with_name names) (joined_path (codes ".") word) names

-- a word that leads to no name
abbrev pub is_nameless : List ℕ → Bool
is_nameless word = not (is_some (joined_path (codes ".") word))

-- the macros and the directories are those that the options ask for
pub record IsOver (options : Options) (inputs : Inputs) : Type 0 where
  pub macros : inputs.macros
      ≡ undefined_by (defined_by [] (map (λ word. word.now) options.defines.items))
      (map (λ word. word.now) options.undefines.items)
  pub search : searched_by [] (map (λ word. word.now) options.directories.items)
      ≡ Some inputs.search

-- and the roots are
pub record AreAsked (options : Options) (inputs : Inputs) (roots : List (List ℕ)) : Type 0 where
  pub over : IsOver options inputs
  pub named : named_by [] (map (λ word. word.now) options.files.items) ≡ Some roots

-- or they are those that FILEs lead to, but for FILEs that lead to no name, which are these
pub record AreAskedBut (options : Options) (inputs : Inputs) (roots nameless : List (List ℕ))
    : Type 0 where
  pub over : IsOver options inputs
  pub named : roots ≡ fold with_word [] (map (λ word. word.now) options.files.items)
  pub nameless_are : nameless ≡ filter is_nameless (map (λ word. word.now) options.files.items)
