use Rattle.first_code.proofs.Products.{product_room}
use Rattle.first_code.proofs.maker.CodeMaker.product.Goals as goal

pub multiply-requires : goal.multiply-requires
multiply-requires c =
    product_room c.args.self.now c.loop-multiplier.self c.args.first c.loop-multiplier.value c.args.rest.now c.loop-multiplier.multiplier-index _
    c.loop-multiplier.invariant c.requires c.loop-multiplier-test.true
