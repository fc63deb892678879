-- `put_names` meets its contract: the names, and a byte behind them.
use Rattle.bundles.proofs.Putting.{put_both}
use Rattle.bundles.proofs.writer.put_names.Goals as goal

pub returns : goal.returns
returns c = put_both c.put_text-end.ensures c.put_byte.ensures
