-- A copy from crates/gm_store_sums/specs/Hash.antt, which tools/check/headline.py writes.
use Rattle.std.specs.Prelude.{ℕ, List, ◌++◌, codes}
use Rattle.page_commands.specs.Types.{sha256, encode_lower, encode_of, standard}

-- the line with the digest of the bytes and the name of the file
abbrev pub summary_line : List ℕ → List ℕ
summary_line content = encode_lower (sha256 content) ++ codes "  go.mod\n"

-- the hash of a line: its SHA-256 (FIPS 180-4) in standard base64 (RFC 4648, section 4)
abbrev pub line_hash : List ℕ → List ℕ
line_hash line = codes "h1:" ++ encode_of standard (sha256 line)

-- the hash of the go.mod of a module with these bytes
abbrev pub file_hash : List ℕ → List ℕ
file_hash content = line_hash (summary_line content)
