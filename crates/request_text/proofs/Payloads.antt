-- What a word spells as a payload.
use Rattle.std.proofs.Common.{◌≡◌, ℕ, ◌≤◌, ◌==◌, true, false, ◌&&◌, List, [], ◌∷◌, length, refl, ap, Some, None, Ok, arith}
use Rattle.std.specs.Prelude.{codes}
use Rattle.std.specs.Str.{bytes_eq}
use Rattle.hex.specs.Hex.{decode_of}
use Rattle.hex.proofs.HexLemmas.{decode_of-ok}
use Rattle.request_text.specs.Words.{same_word, is_hex_word, payload_of, ok_bytes}

-- two words are the same where their bytes are
pub same_word-is : (xs ys : List ℕ) → same_word xs ys ≡ bytes_eq xs ys
same_word-is [] [] = refl
same_word-is [] (y ∷ ys) = refl
same_word-is (x ∷ xs) [] = refl
same_word-is (x ∷ xs) (y ∷ ys) = ap (λ rest. x == y && rest) (same_word-is xs ys)

-- no bytes are spelled by one dash
pub payload_of-dash : (word : List ℕ) → bytes_eq word (codes "-") ≡ true → payload_of word ≡ Some []
payload_of-dash word dash = rw (same_word-is word (codes "-"), dash) refl

-- what is neither a dash nor digits spells nothing
pub payload_of-neither : (word : List ℕ) → bytes_eq word (codes "-") ≡ false → is_hex_word word ≡ false → payload_of word ≡ None
payload_of-neither word no_dash no_digits = rw (same_word-is word (codes "-"), no_dash, no_digits) refl

-- digits spell what they decode to
pub payload_of-digits : (word : List ℕ) → bytes_eq word (codes "-") ≡ false → is_hex_word word ≡ true → payload_of word ≡ ok_bytes (decode_of word)
payload_of-digits word no_dash digits = rw (same_word-is word (codes "-"), no_dash, digits) refl

-- what digits decode to is no longer than a payload
pub length-decoded : (word bytes : List ℕ) → is_hex_word word ≡ true → decode_of word ≡ Ok bytes → length bytes ≤ 65535
length-decoded word bytes digits decoded =
    let len = (decode_of-ok word bytes decoded).2 in
    grind arith
