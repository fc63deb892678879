pub mod TranscriptCases
