use Rattle.std.proofs.Common.{rules, ◌≡◌, ℕ, List, ◌++◌, length, take, drop, sym, subst, Ok}
use Rattle.request_text.specs.declared.request.Line.{Line}
use Rattle.request_text.specs.Scripts.{script_of}
use Rattle.script_reading.proofs.Pieces.{ReadSoFar, piece-read, all-read}
use Rattle.script_reading.proofs.reading.read_alone.Goals as goal

pub loop-rest-preserved : goal.loop-rest-preserved
loop-rest-preserved c =
    let rest = c.loop-rest.rest.now in let at = c.border_from.result in let lines = c.in_ok-lines.lines in
    let read : script_of c.split_at.result.0.now ≡ Ok lines = search rules in
    let first : script_of (take at rest) ≡ Ok lines = subst (λ (bytes : List ℕ). script_of bytes ≡ Ok lines) c.split_at.ensures.front read in
    let pushed : c.push.new.self ≡ c.loop-rest.script ++ lines = search rules in
    record {
      so_far = subst (λ (back : List ℕ). ReadSoFar c.args.bytes.now back c.push.new.self) (sym c.split_at.ensures.back)
          (subst (λ (read : List Line). ReadSoFar c.args.bytes.now (drop at rest) read) (sym pushed)
          (piece-read c.args.bytes.now rest at c.loop-rest.script lines c.border_from.ensures first c.loop-rest.invariant.so_far));
    }

pub returns : goal.returns
returns c =
    let none : length c.loop-rest.rest.now ≡ 0 = search rules in
    all-read c.args.bytes.now c.loop-rest.rest.now c.loop-rest.script none c.loop-rest.invariant.so_far
