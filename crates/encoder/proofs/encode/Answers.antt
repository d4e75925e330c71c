-- `encode`: by the store's case. Assumes nothing.
use mathlib.Core.Path.{◌∙◌, ap, sym}
use Rattle.encoding.specs.Encoding.{encode_of}
use Rattle.encoder.proofs.encode.Goals as goal

pub returns-in-Scatter : goal.returns-in-Scatter
returns-in-Scatter c = c.encode_scatter.ensures ∙ ap encode_of (sym c.in-Scatter.is)

pub returns-in-Strided : goal.returns-in-Strided
returns-in-Strided c = c.encode_strided.ensures ∙ ap encode_of (sym c.in-Strided.is)

pub returns-in-Quadword : goal.returns-in-Quadword
returns-in-Quadword c = c.encode_quadword.ensures ∙ ap encode_of (sym c.in-Quadword.is)
