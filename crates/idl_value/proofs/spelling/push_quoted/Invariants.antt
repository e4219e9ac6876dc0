use Rattle.std.proofs.Common.{◌≡◌, ◌∷◌, [], ◌++◌, drop, flat_map}
use Rattle.idl_value.specs.Spelled.{character_text}
use Rattle.idl_value.proofs.spelling.push_quoted.Given as goal

-- those so far and those of the rest are all
abbrev pub invariant-loop-character : goal.invariant-loop-character
invariant-loop-character l =
    l.text.items ++ flat_map (character_text l.is_wide l.quote) (drop l.character-index l.characters)
    ≡ (l.fn.text.items ++ l.quote ∷ []) ++ flat_map (character_text l.is_wide l.quote) l.characters
