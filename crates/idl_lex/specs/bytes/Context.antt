-- What stands before a place on its line, as far as tokens depend on it.
use Rattle.std.specs.Prelude.{ℕ, Bool, true, false, ◌&&◌, List, [], ◌∷◌, codes, nat_eq, if◌then◌else◌}
use Rattle.std.specs.Str.{bytes_eq}
use Rattle.idl_source.specs.texts.Line.{newline}
use Rattle.idl_lex.specs.bytes.Byte.{is_space}
use Rattle.idl_lex.specs.kinds.Word.{is_word}
use Rattle.idl_lex.specs.declared.bytes.context.Beginning.{Beginning}
use Rattle.idl_lex.specs.declared.bytes.context.Beginning.TheVariants.{Nothing, Hash, Include, Other}
use Rattle.idl_lex.specs.declared.bytes.context.Context.{Context}

-- nothing stands before
abbrev pub line_start : Context
line_start = record { beginning = Nothing; follows_word = false }

-- there is no token before
abbrev pub is_nothing : Beginning → Bool
is_nothing Nothing = true
is_nothing Hash = false
is_nothing Include = false
is_nothing Other = false

-- `#` is the one token before
abbrev pub is_hash : Beginning → Bool
is_hash Nothing = false
is_hash Hash = true
is_hash Include = false
is_hash Other = false

-- the line begins with `#` `include`
abbrev pub is_include : Beginning → Bool
is_include Nothing = false
is_include Hash = false
is_include Include = true
is_include Other = false

-- `*/` stands here
abbrev pub ends_block : Bool → List ℕ → Bool
ends_block after_star [] = false
ends_block after_star (b ∷ rest) =
    if after_star && nat_eq b 47 then true else ends_block (nat_eq b 42) rest

-- of a piece after a first `/`: a comment that is closed
abbrev pub closes : List ℕ → Bool
closes [] = false
closes (b ∷ rest) =
    if nat_eq b 47 then true else (if nat_eq b 42 then ends_block false rest else false)

-- a piece is no token: a white byte, a newline, or a comment that is closed
abbrev pub is_gap : List ℕ → Bool
is_gap [] = true
is_gap (b ∷ rest) = if is_space b then true else (if nat_eq b 47 then closes rest else false)

-- a newline ends a line
abbrev pub is_newline : List ℕ → Bool
is_newline [] = false
is_newline (b ∷ rest) = nat_eq b newline

-- how a line begins, with one token more
abbrev pub beginning_after : Beginning → List ℕ → Beginning
beginning_after Nothing spelling = if bytes_eq spelling (codes "#") then Hash else Other
beginning_after Hash spelling = if bytes_eq spelling (codes "include") then Include else Other
beginning_after Include spelling = Include
beginning_after Other spelling = Other

-- what stands before a place when a piece more stands there
abbrev pub context_after : Context → List ℕ → Context
context_after c piece =
    if is_newline piece then line_start
    else (if is_gap piece then record { beginning = c.beginning; follows_word = false }
    else record { beginning = beginning_after c.beginning piece; follows_word = is_word piece })
