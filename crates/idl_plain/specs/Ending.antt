-- Where a unit of tokens ends, by what it begins with and where its braces stand.
use Rattle.std.specs.Prelude.{Bool, true, false, ◌&&◌, ◌||◌, List, ◌∷◌, ◌++◌, count_by, map, nat_eq, not, if◌then◌else◌}
use Rattle.idl_lex.specs.tokens.Tokens.{Token}
use Rattle.idl_unit.specs.Ending.{begins, closes, ends_in, is_empty, is_semicolon, opens, role}
use Rattle.idl_unit.specs.declared.role.Role.{Role}
use Rattle.idl_unit.specs.declared.role.Role.TheVariants.{Interface, Local, Module}

-- a heading begins with `module`, `interface`, or `local interface`
abbrev pub is_heading : List Role → Bool
is_heading (Module ∷ roles) = true
is_heading (Interface ∷ roles) = true
is_heading (Local ∷ Interface ∷ roles) = true
is_heading roles = false

-- as many braces are opened as closed
abbrev pub is_level : List Token → Bool
is_level unit = nat_eq (count_by (λ t. opens (role t)) unit) (count_by (λ t. closes (role t)) unit)

-- Whether a unit of these tokens ends before that rest. A closing goes to the `;` directly behind
-- its `}`, if one is there; a heading to its `{` or `;`; a declaration to the first `;` outside its
-- own braces. The last two also end before a `}` that isn't theirs, and where nothing follows.
abbrev pub ends_before : List Token → List Token → Bool
ends_before unit rest =
    let is_head = is_heading (map role (unit ++ rest)) in
    if begins closes unit then ends_in is_semicolon unit || not (begins is_semicolon rest)
    else (is_empty rest || ((is_head || is_level unit) && (begins closes rest
    || (ends_in is_semicolon unit || (is_head && ends_in opens unit)))))
