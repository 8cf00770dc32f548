-- What the proof of the exported function uses.
mod Answering
