-- URIs of files (after RFC 8089).
use Rattle.std.specs.Prelude.{ℕ, Bool, ◌||◌, List, [], ◌∷◌, ◌++◌, codes, length, take, drop, flat_map, nat_eq, Option, None, Some, if◌then◌else◌}
use Rattle.std.specs.Char.{is_ascii_alphanumeric}
use Rattle.std.specs.List.{list_any}
use Rattle.std.specs.Str.{bytes_eq}
use Rattle.idl_source.specs.names.Path.{is_rooted}
use Rattle.percent_encoding.specs.Percent.{percent_decode, percent_encode_byte}

-- the bytes behind a front, if they begin with it
abbrev pub behind : List ℕ → List ℕ → Option (List ℕ)
behind front bytes =
    if bytes_eq (take (length front) bytes) front then Some (drop (length front) bytes) else None

-- the path that is escaped in a URI begins with `/`: a host before it is none
abbrev pub path_behind : Option (List ℕ) → Option (List ℕ)
path_behind None = None
path_behind (Some escaped) = if is_rooted escaped then Some (percent_decode escaped) else None

-- the path that a URI stands for
abbrev pub path_of : List ℕ → Option (List ℕ)
path_of uri = path_behind (behind (codes "file://") uri)

-- bytes of which these stand as they are, and each other one as `%` and its two capital hexadecimal
-- digits
abbrev pub escaped_but : (ℕ → Bool) → List ℕ → List ℕ
escaped_but stands bytes =
    flat_map (λ b. if stands b then b ∷ [] else percent_encode_byte b) bytes

-- a byte stands in a URI as it is: a letter, a digit, one of `-._~` (RFC 3986, 2.3) or a slash
abbrev pub stands_in_uris : ℕ → Bool
stands_in_uris b = is_ascii_alphanumeric b || list_any (nat_eq b) (codes "-._~/")

-- the URI of a path
abbrev pub uri_of : List ℕ → List ℕ
uri_of path = codes "file://" ++ escaped_but stands_in_uris path
