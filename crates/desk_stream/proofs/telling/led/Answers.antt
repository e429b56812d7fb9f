use Rattle.std.proofs.Common.{◌≡◌, ℕ, arith, get_or, refl, rules, sym, true}
use Rattle.std.proofs.lemmas.Grind.{get_or_default_zero}
use Rattle.desk_stream.proofs.Leading.{led_more, led_none, led_whole}
use Rattle.desk_stream.proofs.telling.led.Goals as goal

pub loop-byte-init : goal.loop-byte-init
loop-byte-init c = led_none c.args.session c.args.lines.now c.new-text.result.items true refl (search rules)

pub loop-byte-preserved : goal.loop-byte-preserved
loop-byte-preserved c =
    let byte : ℕ = get_or c.args.lines.now c.loop-byte.byte-index 0 in
    let at : byte ≡ get_or c.args.lines.now c.loop-byte.byte-index byte =
    sym (get_or_default_zero c.args.lines.now c.loop-byte.byte-index byte c.loop-byte-test.true) in
    led_more c.args.session c.loop-byte.byte-index c.args.lines.now c.loop-byte.text.items c.put_led.new.text.items c.loop-byte.begins byte
    c.loop-byte.invariant c.loop-byte-test.true at c.in_ok-put_led.ensures

pub returns : goal.returns
returns c =
    led_whole c.args.session c.loop-byte.byte-index c.args.lines.now c.loop-byte.text.items c.loop-byte.begins c.loop-byte.invariant
    (omega (arith, c.loop-byte-test.false))
