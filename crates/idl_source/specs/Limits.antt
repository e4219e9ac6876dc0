-- The limits of a project and of its commands.
use Rattle.std.specs.Prelude.{ℕ}

-- bytes of the name of a file, or of a directory
abbrev pub longest_name : ℕ
longest_name = 255

-- files of a project
abbrev pub most_files : ℕ
most_files = 4096

-- lines of a file
abbrev pub most_lines : ℕ
most_lines = 200000

-- bytes of a line
abbrev pub longest_line : ℕ
longest_line = 4096

-- macros that a session defines
abbrev pub most_macros : ℕ
most_macros = 4096

-- bytes of the body of such a macro
abbrev pub longest_body : ℕ
longest_body = 4096

-- directories in which included files are searched
abbrev pub most_directories : ℕ
most_directories = 256

-- roots of a project
abbrev pub most_roots : ℕ
most_roots = 256

-- bytes of a command line
abbrev pub longest_command : ℕ
longest_command = 8192
