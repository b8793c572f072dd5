-- The text compute: first bad places, scripts, replies.
use Rattle.std.specs.Prelude.{◌≡◌, [], ◌∷◌, ◌++◌, refl, codes, Ok, Err}
use Rattle.std.specs.Fmt.{digits}
use Rattle.hex.specs.Hex.{decode_pairs, encode_with}
use Rattle.request_text.specs.declared.request.Request.TheVariants as request
use Rattle.request_text.specs.declared.reply.Reply.TheVariants as reply
use Rattle.request_text.specs.Scripts.{script_of, script_text}
use Rattle.request_text.specs.ReplyText.{reply_text}

empty_text : script_of [] ≡ Ok []
empty_text = refl

empty_line : script_of (10 ∷ []) ≡ Err (record { line = 1; column = 1 })
empty_line = refl

missing_word : script_of (codes "1 get") ≡ Err (record { line = 1; column = 6 })
missing_word = refl

bad_request : script_of (codes "1 fly 3") ≡ Err (record { line = 1; column = 3 })
bad_request = refl

one_too_many : script_of (codes "0 begin" ++ 10 ∷ codes "0 commit 5" ++ 10 ∷ []) ≡ Err (record { line = 2; column = 10 })
one_too_many = refl

leading_zero : script_of (codes "1 get 01") ≡ Err (record { line = 1; column = 7 })
leading_zero = refl

space_at_end : script_of (codes "1 commit ") ≡ Err (record { line = 1; column = 10 })
space_at_end = refl

first_script : script_of (codes "1 begin" ++ 10 ∷ codes "1 vertex 61" ++ 10 ∷ codes "1 put 1 5 7 -")
    ≡ Ok (record { session = 1; request = request.Begin } ∷ record { session = 1; request = request.Vertex (97 ∷ []) } ∷ record { session = 1; request = request.Put 1 5 7 [] } ∷ [])
unfolding decode_pairs
first_script = refl

round_trip : script_of (script_text (record { session = 65535; request = request.Del 9223372036854775807 65535 0 } ∷ [])) ≡ Ok (record { session = 65535; request = request.Del 9223372036854775807 65535 0 } ∷ [])
unfolding digits
round_trip = refl

shown : reply_text 5 (reply.Edges (record { d = 7; p = [] } ∷ record { d = 9; p = 255 ∷ [] } ∷ [])) ≡ codes "5 edges 2 7:- 9:ff" ++ 10 ∷ []
unfolding digits encode_with
shown = refl
