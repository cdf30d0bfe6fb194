-- Document 01, "The dump program": W9's input and its whole output.
use Rattle.std.specs.Prelude.{ℕ, List, [], ◌∷◌, ◌++◌, replicate, codes}
use Rattle.dump.specs.Feeding.{Fed, nothing, feed_rule, bytes_of}

-- what the program holds before its first read: 1,024 entries per table and 16,384 data bytes, all 0
abbrev pub cleared : Fed
cleared = nothing (replicate 1024 0) (replicate 1024 0) (replicate 1024 0) (replicate 1024 0) (replicate 16384 0)

-- W9's values, fed
abbrev pub w9_fed : Fed
w9_fed = feed_rule cleared (bytes_of (0 ∷ 0 ∷ 256 ∷ 256 ∷ 512 ∷ []))

-- W9's whole output
abbrev pub w9_output : List ℕ
w9_output =
    codes "length 5\n"
    ++ codes "segments 3\n"
    ++ codes "bytes 76\n"
    ++ codes "segment 0 start 0 base 0 offset 0 width 1\n"
    ++ codes "segment 1 start 2 base 256 offset 1 width 1\n"
    ++ codes "segment 2 start 4 base 512 offset 2 width none\n"
